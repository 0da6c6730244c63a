use Rattle.std.proofs.Common.{ap, ◌∙◌}
use Rattle.job_table.specs.Table.{JobsView, job_with}
use Rattle.job_table.proofs.Entries.{lookup-table}
use Rattle.job_table.proofs.jobs.Jobs.get.Goals as goal

pub returns : goal.returns
returns c =
    c.get.ensures.value
    ∙ lookup-table c.args.id c.self.inside.by_id.entries c.self.invariant.table
    ∙ ap (λ (view : JobsView). job_with c.args.id view.records) c.self.view_is
