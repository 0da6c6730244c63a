use Rattle.std.proofs.Common.{◌≡◌, Bool, drop}
use Rattle.std.specs.List.{filter, list_any}
use Rattle.request_data.specs.declared.target.Target.{Target}
use Rattle.job_table.specs.declared.record.JobRecord.{JobRecord}
use Rattle.job_table.specs.Targets.{is_named}
use Rattle.ctl_state.specs.State.{state_of}
use Rattle.ctl_jobs.specs.Changing.{changes}
use Rattle.ctl_jobs.proofs.changing.changes_any.Given as goal

abbrev pub invariant-loop-target : goal.invariant-loop-target
invariant-loop-target l =
    let free : JobRecord → Bool = changes (state_of l.cluster) l.user l.action in
    let named : Target → Bool = λ target. list_any free (filter (is_named target) l.cluster.jobs.records) in
    list_any named l.targets ≡ list_any named (drop l.target-index l.targets)
