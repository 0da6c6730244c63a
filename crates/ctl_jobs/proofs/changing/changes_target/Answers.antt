use Rattle.std.proofs.Common.{◌∙◌, Bool, ◌&&◌, ap, rules, tests}
use Rattle.std.specs.List.{list_any}
use Rattle.std.proofs.lemmas.Iterator.{YieldsList-from_slice}
use Rattle.std.proofs.lemmas.Iterator.Search.{any_from_yields_List}
use Rattle.job_table.specs.declared.record.JobRecord.{JobRecord}
use Rattle.job_table.specs.Targets.{is_named}
use Rattle.ctl_state.specs.State.{state_of}
use Rattle.ctl_jobs.specs.Changing.{changes}
use Rattle.ctl_jobs.proofs.Naming.{any_filter}
use Rattle.ctl_jobs.proofs.changing.changes_target.Goals as goal

pub returns : goal.returns
returns c =
    let named = is_named c.args.target.now in
    let free : JobRecord → Bool = changes (state_of c.args.cluster.now) c.args.user.now c.args.action.now in
    any_from_yields_List (λ job. named job && free job) _ _ _ c.any.ensures.ran
    (YieldsList-from_slice c.span_of.result.now cc) (λ x b q k. search (rules, tests))
    ∙ any_filter named free c.span_of.result.now
    ∙ ap (list_any free) c.span_of.ensures
