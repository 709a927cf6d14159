use Rattle.std.proofs.Common.{length, ap, inr, arith}
use Rattle.jobs.specs.Adding.{TooMany, path_checks}
use Rattle.jobs.specs.Adding.TooMany.{places, slots}
use Rattle.jobs.proofs.Answering.{last_refuses}
use Rattle.jobs.proofs.job.Job.admit.Goals as goal
use Rattle.jobs.proofs.job.Job.admit.Goals.{then-places-limits-via-then-places-limits, then-places-limits-via-else-places-limits+then-slots-limits}

pub returns-then-places-limits-clause-answer : goal.returns-then-places-limits-clause-answer
returns-then-places-limits-clause-answer g c =
    let j = c.args.self.now in
    let path = c.args.path.now in
    let sheet = c.args.sheet.now in
    let shown_places = ap length c.places.ensures in
    let shown_slots = ap length c.slots.ensures in
    let too_many : TooMany j path sheet =
    elim c.then-places-limits.branch [
      | then-places-limits-via-then-places-limits w ↦ places (omega (arith, shown_places, w.if-places-limits.true))
      | then-places-limits-via-else-places-limits+then-slots-limits w ↦ slots (omega (arith, shown_slots, w.if-slots-limits.true))
    ] in
    inr (c.if-self-eq0.false, last_refuses (path_checks path sheet) 31 (TooMany j path sheet) c.in_ok-askable.ensures.answer too_many)
