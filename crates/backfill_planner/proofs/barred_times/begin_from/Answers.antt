use Rattle.std.proofs.Common.{◌≤◌, get_or, arith}
use Rattle.std.proofs.lemmas.List.{take_all, get_or_default}
use Rattle.backfill_planner.specs.declared.stretches.Stretch.{Stretch}
use Rattle.backfill_planner.proofs.Barring.{times-more}
use Rattle.backfill_planner.proofs.barred_times.begin_from.Goals as goal
use Rattle.backfill_planner.proofs.barred_times.begin_from.Goals.{then-end-stretch+then-stretch-next, else-end-stretch, else-end-stretch-via-then-end-stretch+else-stretch-next, else-end-stretch-via-else-end-stretch}

pub loop-stretch-preserved : goal.loop-stretch-preserved
loop-stretch-preserved c =
    let kept = c.loop-stretch.invariant in
    let stretch = get_or c.args.stretches.now c.loop-stretch.stretch-index (record { from = 0; until = 0 }) in
    let before : Stretch → Type 0 = λ one. c.args.end ≤ one.from → c.loop-stretch.next ≤ one.from in
    let more = times-more before (λ one. c.args.end ≤ one.from → c.if-end-stretch.next ≤ one.from) c.args.stretches.now c.loop-stretch.stretch-index stretch c.loop-stretch-test.true (get_or_default c.args.stretches.now c.loop-stretch.stretch-index _ stretch c.loop-stretch-test.true) in
    elim c.if-end-stretch.branch [
      | then-end-stretch+then-stretch-next w ↦ record {
        later = omega (arith, w.next-is, w.if-end-stretch.true);
        within = omega (arith, w.next-is, w.if-stretch-next.true, kept.within);
        least = more (λ one least late. omega (arith, least late, w.next-is, w.if-stretch-next.true)) (λ late. omega (arith, w.next-is)) kept.least;
      }
      | else-end-stretch w ↦ record {
        later = omega (arith, w.next-is, kept.later);
        within = omega (arith, w.next-is, kept.within);
        least = more (λ one least late. omega (arith, least late, w.next-is)) (λ late. elim w.else-end-stretch.branch [
          | else-end-stretch-via-then-end-stretch+else-stretch-next v ↦ omega (arith, w.next-is, v.if-stretch-next.false)
          | else-end-stretch-via-else-end-stretch v ↦ absurd (omega (arith, late, v.if-end-stretch.false))
        ]) kept.least;
      }
    ]

pub returns-clause-least : goal.returns-clause-least
returns-clause-least c = rw (take_all c.loop-stretch.stretch-index c.args.stretches.now c.loop-stretch-test.false) at c.loop-stretch.invariant.least
