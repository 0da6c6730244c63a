use Rattle.std.proofs.Common.{◌∙◌}
use Rattle.job_table.specs.Targets.{is_named_by}
use Rattle.ctl_jobs.proofs.Named.{any_named}
use Rattle.ctl_jobs.proofs.dependency.names_any.Goals as goal

pub returns : goal.returns
returns c =
    let test = is_named_by c.args.id.now.id c.args.id.now.index in
    c.any_named.ensures ∙ any_named test c.span_of.result.now c.args.jobs.now.records c.span_of.ensures
