use Rattle.std.proofs.Common.{◌≡◌, ap}
use Rattle.std.specs.Map.{values_of}
use Rattle.job_table.specs.Table.{JobsView}
use Rattle.job_table.proofs.jobs.Jobs.next_on.Goals as goal

pub next_on-requires-clause-marked : goal.next_on-requires-clause-marked
next_on-requires-clause-marked c =
    let view : values_of c.self.inside.by_id.entries ≡ c.args.self.now.records =
    ap (λ (view : JobsView). view.records) c.self.view_is in
    rw (c.as_slice.ensures.value, c.records.ensures.value, ← view) c.self.invariant.marked
