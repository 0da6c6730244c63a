use Rattle.std.proofs.Common.{◌≡◌, ◌≤◌, true, arith}
use Rattle.std.proofs.lemmas.List.{take_all}
use Rattle.plain_data.specs.Rows.{has_id}
use Rattle.backfill_planner.specs.declared.job.Barred.{Barred}
use Rattle.backfill_planner.proofs.Barring.{times-more}
use Rattle.backfill_planner.proofs.barred_times.walked_begin.Goals as goal
use Rattle.backfill_planner.proofs.barred_times.walked_begin.Goals.{then-end-time+then-time-next+then-contains, else-end-time, else-end-time-via-then-end-time+then-time-next+else-contains, else-end-time-via-then-end-time+else-time-next, else-end-time-via-else-end-time}

pub loop-time-preserved : goal.loop-time-preserved
loop-time-preserved c =
    let kept = c.loop-time.invariant in
    let time = c.time-item.result in
    let before : Barred → Type 0 = λ one. has_id one.nodes c.args.node ≡ true → c.args.end ≤ one.from → c.loop-time.next ≤ one.from in
    let more = times-more before (λ one. has_id one.nodes c.args.node ≡ true → c.args.end ≤ one.from → c.if-end-time.next ≤ one.from) c.args.times.now c.loop-time.time-index time c.loop-time-test.true c.time-item.is in
    elim c.if-end-time.branch [
      | then-end-time+then-time-next+then-contains w ↦ record {
        later = omega (arith, w.next-is, w.if-end-time.true);
        within = omega (arith, w.next-is, w.if-time-next.true, kept.within);
        least = more (λ one least has late. omega (arith, least has late, w.next-is, w.if-time-next.true)) (λ has late. omega (arith, w.next-is)) kept.least;
      }
      | else-end-time w ↦ record {
        later = omega (arith, w.next-is, kept.later);
        within = omega (arith, w.next-is, kept.within);
        least = more (λ one least has late. omega (arith, least has late, w.next-is)) (λ has late. elim w.else-end-time.branch [
          | else-end-time-via-then-end-time+then-time-next+else-contains v ↦ absurd cc
          | else-end-time-via-then-end-time+else-time-next v ↦ omega (arith, w.next-is, v.if-time-next.false)
          | else-end-time-via-else-end-time v ↦ absurd (omega (arith, late, v.if-end-time.false))
        ]) kept.least;
      }
    ]

pub returns-clause-least : goal.returns-clause-least
returns-clause-least c = rw (take_all c.loop-time.time-index c.args.times.now c.loop-time-test.false) at c.loop-time.invariant.least
