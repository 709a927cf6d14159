-- What a reader of a draft has read.
use Rattle.std.specs.Prelude.{◌≡◌, length, Ok, Err, Result}
use Rattle.reading.specs.declared.fault.ReadFault.{ReadFault}
use Rattle.reading.specs.declared.drafting.reader.DraftReader.{DraftReader}
use Rattle.reading.specs.Drafts.{Draft}
use Rattle.reading.specs.Steps.{Step, go}
use Rattle.reading.specs.Answers.{refused, draft}

module _ {K : Type 0} where
  -- the draft that its tables hold
  abbrev pub read : DraftReader K → Draft K
  read r = draft r.cur r.places.now r.slots.now

  -- what came: the draft that the reader has then, or a refusal
  abbrev pub came : Result Unit ReadFault → DraftReader K → Step K
  came (Ok u) r = go (read r)
  came (Err f) r = refused f

  -- both readers are over the same tables
  pub record SameTables (r s : DraftReader K) : Type 0 where
    pub places : s.places.ghost_name ≡ r.places.ghost_name
    pub slots : s.slots.ghost_name ≡ r.slots.ghost_name
    pub place_room : length s.places.now ≡ length r.places.now
    pub slot_room : length s.slots.now ≡ length r.slots.now
