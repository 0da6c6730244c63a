use Rattle.std.proofs.Common.{◌≤◌, ◌<◌, arith}
use Rattle.std.proofs.lemmas.List.{take_all}
use Rattle.backfill_planner.specs.declared.job.Barred.{Barred}
use Rattle.backfill_planner.proofs.Barring.{times-more}
use Rattle.backfill_planner.proofs.barred_times.next_end.Goals as goal
use Rattle.backfill_planner.proofs.barred_times.next_end.Goals.{then-after-time+then-time-next, else-after-time, else-after-time-via-then-after-time+else-time-next, else-after-time-via-else-after-time}

pub loop-time-preserved : goal.loop-time-preserved
loop-time-preserved c =
    let kept = c.loop-time.invariant in
    let time = c.time-item.result in
    let after : Barred → Type 0 = λ one. c.args.after < one.until → c.loop-time.next ≤ one.until in
    let more = times-more after (λ one. c.args.after < one.until → c.if-after-time.next ≤ one.until) c.args.barred.now c.loop-time.time-index time c.loop-time-test.true c.time-item.is in
    elim c.if-after-time.branch [
      | then-after-time+then-time-next w ↦ record {
        later = omega (arith, w.next-is, w.if-after-time.true);
        within = omega (arith, w.next-is, w.if-time-next.true, kept.within);
        least = more (λ one least late. omega (arith, least late, w.next-is, w.if-time-next.true)) (λ late. omega (arith, w.next-is)) kept.least;
      }
      | else-after-time w ↦ record {
        later = omega (arith, w.next-is, kept.later);
        within = omega (arith, w.next-is, kept.within);
        least = more (λ one least late. omega (arith, least late, w.next-is)) (λ late. elim w.else-after-time.branch [
          | else-after-time-via-then-after-time+else-time-next v ↦ omega (arith, w.next-is, v.if-time-next.false)
          | else-after-time-via-else-after-time v ↦ absurd (omega (arith, late, v.if-after-time.false))
        ]) kept.least;
      }
    ]

pub returns-clause-least : goal.returns-clause-least
returns-clause-least c = rw (take_all c.loop-time.time-index c.args.barred.now c.loop-time-test.false) at c.loop-time.invariant.least
