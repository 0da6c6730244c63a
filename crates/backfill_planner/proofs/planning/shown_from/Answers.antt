use Rattle.std.proofs.Common.{arith}
use Rattle.backfill_planner.specs.Lesser.{NoneBefore}
use Rattle.backfill_planner.proofs.Settling.{none-before-max}
use Rattle.backfill_planner.proofs.planning.shown_from.Goals as goal

pub returns-then-horizon-begin-clause-none : goal.returns-then-horizon-begin-clause-none
returns-then-horizon-begin-clause-none c = λ rooms seen none.
    let holds = c.args.profile.now.holds in
    let job = c.args.job.now in
    let now = c.args.now in
    let empty : NoneBefore rooms holds job now now = λ second low high last. absurd (omega (arith, low, high)) in
    rw c.max-begin.ensures (none-before-max rooms holds job now c.search_from.result now (c.search_from.ensures.none rooms none) empty)

pub returns-clause-none : goal.returns-clause-none
returns-clause-none c = λ rooms seen none.
    let holds = c.args.profile.now.holds in
    let job = c.args.job.now in
    let now = c.args.now in
    let empty : NoneBefore rooms holds job now now = λ second low high last. absurd (omega (arith, low, high)) in
    let begin : NoneBefore rooms holds job now c.max-begin.result = rw c.max-begin.ensures (none-before-max rooms holds job now c.search_from.result now (c.search_from.ensures.none rooms none) empty) in
    rw c.max.ensures (none-before-max rooms holds job now c.bound.result c.max-begin.result (c.bound.ensures.none rooms holds seen) begin)
