-- No candidate so far comes before the job.
use Rattle.std.proofs.Common.{◌≡◌, true, false}
use Rattle.std.specs.List.{AllWithin}
use Rattle.ctl_state.specs.State.{state_of}
use Rattle.ctl_waiting.specs.Candidates.{is_candidate}
use Rattle.ctl_waiting.specs.Rank.{comes_before}
use Rattle.ctl_waiting.proofs.ranking.is_highest.Given as goal

abbrev pub invariant-loop-other : goal.invariant-loop-other
invariant-loop-other l =
    AllWithin
    (λ other. is_candidate (state_of l.cluster) l.factors.moment other ≡ true
    → comes_before (state_of l.cluster) l.factors.moment other l.job ≡ false)
    l.cluster.jobs.records 0 l.other-index
