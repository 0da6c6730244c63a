use Rattle.std.proofs.Common.{◌≡◌, ap}
use Rattle.std.specs.Map.{values_of}
use Rattle.job_table.specs.Table.{JobsView}
use Rattle.job_table.proofs.Marks.{none-holding}
use Rattle.job_table.proofs.jobs.Jobs.next_holding.Goals as goal

pub returns-clause-before : goal.returns-clause-before
returns-clause-before c =
    let view : values_of c.self.inside.by_id.entries ≡ c.args.self.now.records =
    ap (λ (view : JobsView). view.records) c.self.view_is in
    none-holding c.self.inside.blocks.items c.args.self.now.records c.args.from c.next_in_holding.result
    (rw view at c.self.invariant.marked) (rw c.len.ensures.value at c.next_in_holding.ensures.there)
    (rw (c.as_slice.ensures.value, c.len.ensures.value) at c.next_in_holding.ensures.before)
