use Rattle.std.proofs.Common.{◌≡◌, filter, map, take}
use Rattle.job_table.specs.declared.record.JobRecord.{JobRecord}
use Rattle.ctl_state.specs.State.{state_of}
use Rattle.ctl_waiting.specs.declared.rank_keys.RankKey.{RankKey}
use Rattle.ctl_pass.specs.declared.preemptable.Preemptable.{Preemptable}
use Rattle.ctl_pass.specs.Preempting.{is_preemptable}
use Rattle.ctl_pass.proofs.RankOrders.{with_key}
use Rattle.ctl_pass.proofs.preemptable.all_preemptable.Given as goal

-- those of the jobs so far that might go
abbrev pub invariant-loop-job : goal.invariant-loop-job
invariant-loop-job l =
    map {B = JobRecord × RankKey} (λ (one : Preemptable). (one.job.now, one.key)) l.some.items
    ≡ map (with_key (state_of l.cluster) l.factors.moment)
    (filter (is_preemptable (state_of l.cluster) l.factors.moment l.high) (take l.job-index l.cluster.jobs.records))
