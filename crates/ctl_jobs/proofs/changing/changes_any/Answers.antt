use Rattle.std.proofs.Common.{◌∙◌, Bool, ap, sym}
use Rattle.std.specs.List.{filter, list_any}
use Rattle.std.proofs.lemmas.List.{drop_all}
use Rattle.std.proofs.lemmas.List.Folds.{list_any_at}
use Rattle.request_data.specs.declared.target.Target.{Target}
use Rattle.job_table.specs.declared.record.JobRecord.{JobRecord}
use Rattle.job_table.specs.Targets.{is_named}
use Rattle.ctl_state.specs.State.{state_of}
use Rattle.ctl_jobs.specs.Changing.{changes}
use Rattle.ctl_jobs.proofs.Naming.{any_named}
use Rattle.ctl_jobs.proofs.changing.changes_any.Goals as goal

pub returns-then-changes_target : goal.returns-then-changes_target
returns-then-changes_target c =
    let jobs = c.args.cluster.now.jobs.records in
    let free : JobRecord → Bool = changes (state_of c.args.cluster.now) c.args.user.now c.args.action.now in
    let names : Target → Bool = λ target. list_any free (filter (is_named target) jobs) in
    sym (any_named is_named free jobs c.args.targets.now
    ∙ list_any_at names c.args.targets.now c.loop-target.target-index _ c.loop-target-test.true
    (sym c.changes_target.ensures ∙ c.if-changes_target.true))

pub returns : goal.returns
returns c =
    let jobs = c.args.cluster.now.jobs.records in
    let free : JobRecord → Bool = changes (state_of c.args.cluster.now) c.args.user.now c.args.action.now in
    let names : Target → Bool = λ target. list_any free (filter (is_named target) jobs) in
    sym (any_named is_named free jobs c.args.targets.now
    ∙ c.loop-target.invariant
    ∙ ap (list_any names) (drop_all c.loop-target.target-index c.args.targets.now c.loop-target-test.false))
