use Rattle.std.proofs.Common.{rules, ◌≡◌, ◌⊎◌, length, sym, ◌∙◌, inl, inr, arith}
use Rattle.std.proofs.lemmas.Bool.{and_parts, eqb-true}
use Rattle.records.specs.Tables.{blank_slot}
use Rattle.joining.proofs.Walks.{first_and_rest, walking_none, walking_all, walking_covers, leads_in, walking_left, walking_right, walking_both}
use Rattle.joining.proofs.closing.join_common.Goals as goal
use Rattle.joining.proofs.closing.join_common.Goals.{in_default, in_default-2}

pub loop-left-init : goal.loop-left-init
loop-left-init g c =
    walking_none c.args.sides.now.tables.places.now c.args.sides.now.tables.slots.now c.args.sides.now.ordered c.args.x c.args.y c.requires.within.0 c.requires.within.1
    c.args.links.now c.requires.forest c.slots_of-left.result.now c.slots_of-right.result.now c.slots_of-left.ensures c.slots_of-right.ensures

pub join-changed-requires-clause-within : goal.join-changed-requires-clause-within
join-changed-requires-clause-within g c =
    let is_s = first_and_rest blank_slot c.loop-left.left.now (search rules) in
    let is_t = first_and_rest blank_slot c.loop-left.right.now (search rules) in
    let targets = leads_in c.args.sides.now.tables.places.now c.args.sides.now.tables.slots.now c.args.sides.now.ordered c.args.x c.args.y c.requires.within.0 c.requires.within.1
    c.args.links.now c.loop-left.links c.loop-left.changed c.loop-left.all c.loop-left.left.now c.loop-left.right.now c.loop-left.invariant
    _ _ _ _ is_s is_t in
    (omega (arith, targets.0), omega (arith, targets.1))

pub loop-left-preserved-then-s-t : goal.loop-left-preserved-then-s-t
loop-left-preserved-then-s-t g c =
    let is_s = first_and_rest blank_slot c.loop-left.left.now (search rules) in
    let is_t = first_and_rest blank_slot c.loop-left.right.now (search rules) in
    walking_left c.args.sides.now.tables.places.now c.args.sides.now.tables.slots.now c.args.sides.now.ordered c.args.x c.args.y c.requires.within.0 c.requires.within.1
    c.args.links.now c.loop-left.links c.loop-left.changed c.loop-left.all c.loop-left.left.now c.loop-left.right.now c.loop-left.invariant
    _ _ _ _ is_s is_t c.if-s-t.true

pub loop-left-preserved-then-t-s : goal.loop-left-preserved-then-t-s
loop-left-preserved-then-t-s g c =
    let is_s = first_and_rest blank_slot c.loop-left.left.now (search rules) in
    let is_t = first_and_rest blank_slot c.loop-left.right.now (search rules) in
    walking_right c.args.sides.now.tables.places.now c.args.sides.now.tables.slots.now c.args.sides.now.ordered c.args.x c.args.y c.requires.within.0 c.requires.within.1
    c.args.links.now c.loop-left.links c.loop-left.changed c.loop-left.all c.loop-left.left.now c.loop-left.right.now c.loop-left.invariant
    _ _ _ _ is_s is_t c.if-t-s.true

pub loop-left-preserved : goal.loop-left-preserved
loop-left-preserved g c =
    let is_s = first_and_rest blank_slot c.loop-left.left.now (search rules) in
    let is_t = first_and_rest blank_slot c.loop-left.right.now (search rules) in
    walking_both c.args.sides.now.tables.places.now c.args.sides.now.tables.slots.now c.args.sides.now.ordered c.args.x c.args.y c.requires.within.0 c.requires.within.1
    c.args.links.now c.loop-left.links c.loop-left.changed c.loop-left.all c.loop-left.left.now c.loop-left.right.now c.loop-left.invariant
    _ _ _ _ is_s is_t (omega (arith, c.if-s-t.false, c.if-t-s.false)) c.requires.together
    c.join-changed.new.links c.join-changed.result c.join-changed.ensures.merges c.join-changed.ensures.tells

pub returns-clause-agree : goal.returns-clause-agree
returns-clause-agree g c =
    let ended : (length c.loop-left.left.now ≡ 0) ⊎ (length c.loop-left.right.now ≡ 0) =
    elim c.if-left-lt1.branch [ in_default w ↦ inl (search rules) | in_default-2 w ↦ inr (search rules) ] in
    walking_all c.args.sides.now.tables.places.now c.args.sides.now.tables.slots.now c.args.sides.now.ordered c.args.x c.args.y c.requires.within.0 c.requires.within.1
    c.args.links.now c.loop-left.links c.loop-left.changed c.loop-left.all c.loop-left.left.now c.loop-left.right.now c.loop-left.invariant ended

pub returns-clause-covers : goal.returns-clause-covers
returns-clause-covers g c t =
    let parts = and_parts c.loop-left.all c.is_empty-all.result t in
    walking_covers c.args.sides.now.tables.places.now c.args.sides.now.tables.slots.now c.args.sides.now.ordered c.args.x c.args.y c.requires.within.0 c.requires.within.1
    c.args.links.now c.loop-left.links c.loop-left.changed c.loop-left.all c.loop-left.left.now c.loop-left.right.now c.loop-left.invariant
    (eqb-true (length c.loop-left.left.now) 0 (sym c.is_empty-all.ensures ∙ parts.1)) parts.0
