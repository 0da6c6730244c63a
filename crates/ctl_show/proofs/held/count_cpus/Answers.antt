use Rattle.std.proofs.Common.{length, arith}
use Rattle.job_table.specs.declared.record.Part.{Part}
use Rattle.ctl_show.proofs.Stands.{counts-more}
use Rattle.ctl_show.proofs.held.count_cpus.Goals as goal

pub loop-part-preserved : goal.loop-part-preserved
loop-part-preserved c = λ before counted.
    let i = c.loop-part.part-index in
    let part = c.part-item.result in
    let there = c.requires i part c.loop-part-test.true in
    counts-more (λ (part : Part). length part.cpus) before c.args.parts.now i part c.loop-part.counts c.saturating_add.result
    c.loop-part-test.true c.part-item.is (omega (arith, rw (← c.part-item.is) at there, c.loop-part.auto.counts))
    (rw c.len.ensures.value at c.saturating_add.ensures) (c.loop-part.invariant before counted)
