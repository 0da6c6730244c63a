-- Nothing is awaited before the first.
use Rattle.std.proofs.Common.{ap, arith, length}
use Rattle.job_table.specs.Awaiting.{awaits}
use Rattle.job_table.proofs.Awaiting.{adds-more, shows-all}
use Rattle.job_table.proofs.awaited.Awaited.of.Goals as goal

pub add_waiting-requires-clause-rising : goal.add_waiting-requires-clause-rising
add_waiting-requires-clause-rising c = c.records-records.ensures.rising

pub loop-waiting-preserved : goal.loop-waiting-preserved
loop-waiting-preserved c =
    adds-more awaits c.records-records.result.now c.args.jobs.now.records _ _ _ c.loop-waiting.waiting-index c.waiting-item.result (omega arith) c.waiting-item.is
    c.loop-waiting.invariant c.in_ok-add_waiting.ensures

pub returns : goal.returns
returns c =
    let same = c.records-records.ensures.value in
    shows-all c.args.jobs.now.records _ c.loop-waiting.awaited c.loop-waiting.waiting-index c.new.ensures.empty
    c.new-2.ensures.empty (omega (arith, ap length same)) (rw same at c.loop-waiting.invariant)
