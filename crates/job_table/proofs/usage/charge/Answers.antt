-- A machine's word is wide enough for what is charged.
use Rattle.std.proofs.Common.{◌≡◌, ap, ◌∙◌}
use Rattle.job_table.specs.Usage.{charged_by, grown, used_by_change}
use Rattle.job_table.specs.Walks.{map_at}
use Rattle.job_table.proofs.Charging.{grown-words}
use Rattle.job_table.proofs.usage.charge.Goals as goal

pub returns : goal.returns
unfolding charged_by
returns c =
    let job = c.args.job.now in
    let totals = c.args.totals.now.items in
    c.grow.ensures
    ∙ ap (λ more. map_at job.assoc (λ total. grown total more) totals) c.used_by_change.ensures
    ∙ grown-words job.assoc (used_by_change c.args.change.now job) totals
