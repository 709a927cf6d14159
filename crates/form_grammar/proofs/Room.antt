-- There is room for the kind of a narrow.
use Rattle.std.proofs.Common.{◌≡◌, ℕ, true, List, ℤ, Some, None, Option, sym, refl, subst}
use Rattle.reading.specs.Forms.{Formed, goes}
use Rattle.grammar.specs.Rules.{place_room}
use Rattle.form_grammar.specs.FormLeast.{Clean, start, more, InKind, KindHasRoom}
use Rattle.form_grammar.proofs.Machine.{State, begin, opened, path, in_path, second, in_second, in_place, in_kind, close, closed, KindMode, unread, low, dotted, high, ranged, step}
use Rattle.form_grammar.proofs.Sim.{Rel, Matches, sim}

module _ {K : Type 0} (words : List ℕ → Option K) (ranges : ℤ → ℤ → Option K) (pl sl : ℕ) (line : List ℕ) where
  -- the machine is in a state that goes with what was read
  related : {from : ℕ} {f : Formed K} → Clean words ranges pl sl line from f → (s : State) × Rel words ranges pl sl line s f from
  related start = (begin, refl)
  related (more {from} {f} {x} {i} {j} {f₂} c at k e) =
      let r = related c in
      on (step r.0 x) (subst (Matches words ranges pl sl line i j (step r.0 x)) e (sim words ranges pl sl line r.0 f x from i j at r.1))
    where
      on : (o : Option State) → Matches words ranges pl sl line i j o (goes f₂) → (s : State) × Rel words ranges pl sl line s f₂ j
      on None m = absurd m
      on (Some s) m = (s, m)

  abbrev Room : Formed K → Type 0
  Room f = InKind f.stage → place_room 1 f.draft ≡ true

  kind_room : (p : List (List ℕ)) (m : KindMode) (f : Formed K) (from : ℕ) → Rel words ranges pl sl line (in_kind p m) f from → Room f
  kind_room p unread f from r = subst Room (sym r.0) (λ q. refl)
  kind_room p low f from r = subst Room (sym r.0.1) (λ q. refl)
  kind_room p (dotted a) f from r = subst Room (sym r.0.1) (λ q. refl)
  kind_room p (high a) f from r = subst Room (sym r.0.1) (λ q. refl)
  kind_room p (ranged a h) f from r = subst Room (sym r.0.1) (λ q. refl)

  room : (s : State) (f : Formed K) (from : ℕ) → Rel words ranges pl sl line s f from → Room f
  room begin f from r = subst Room (sym r) (λ q. absurd q)
  room opened f from r = subst Room (sym r) (λ q. absurd q)
  room (path v) f from r = subst Room (sym r) (λ q. absurd q)
  room (in_path v ws) f from r = subst Room (sym r.0) (λ q. absurd q)
  room (second p) f from r = subst Room (sym r.0) (λ q. absurd q)
  room (in_second p ws) f from r = subst Room (sym r.0) (λ q. absurd q)
  room (in_place p s) f from r = subst Room (sym r.same) (λ q. absurd q)
  room (in_kind p m) f from r = kind_room p m f from r
  room (close t) f from r = subst Room (sym r.same) (λ q. absurd q)
  room (closed t) f from r = subst Room (sym r.same) (λ q. absurd q)

pub kind_has_room : {K : Type 0} → KindHasRoom K
kind_has_room words ranges pl sl line from f c = let r = related words ranges pl sl line c in room words ranges pl sl line r.0 f from r.1
