-- A refusal, whatever the tables hold; and what is read into the front of a table stands in the whole table.
use Rattle.std.proofs.Common.{◌≡◌, List, ◌++◌, Ok, Err, Result, refl, ap, arith}
use Rattle.std.proofs.lemmas.List.{take-append-le, length-append}
use Rattle.reading.specs.Steps.{go}
use Rattle.reading.specs.declared.fault.ReadFault.{ReadFault}
use Rattle.reading.specs.declared.draft.Cursor.{Cursor}
use Rattle.reading.specs.declared.draft.Place.{Place}
use Rattle.reading.specs.declared.draft.Slot.{Slot}
use Rattle.reading.specs.Answers.{refused, came, WithinOk}

pub came_err : {K : Type 0} {r : Result Cursor ReadFault} {f : ReadFault} (ps : List (Place K)) (ss : List Slot) → r ≡ Err f → came r ps ss ≡ refused f
came_err ps ss e = ap (λ r. came r ps ss) e

module _ {K : Type 0} (ps qs : List (Place K)) (ss ts : List Slot) where
  pub came_front : (r : Result Cursor ReadFault) → WithinOk r ps ss → came r (ps ++ qs) (ss ++ ts) ≡ came r ps ss
  came_front (Ok c) w = λ i. go (record { mode = c.mode; top = c.top; places = take-append-le c.places ps qs w.0 i; slots = take-append-le c.slots ss ts w.1 i })
  came_front (Err f) w = refl

  pub within_front : (r : Result Cursor ReadFault) → WithinOk r ps ss → WithinOk r (ps ++ qs) (ss ++ ts)
  within_front (Ok c) w = (omega (arith, length-append ps qs, w.0), omega (arith, length-append ss ts, w.1))
  within_front (Err f) w = tt
