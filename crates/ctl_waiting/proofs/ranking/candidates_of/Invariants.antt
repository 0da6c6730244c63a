use Rattle.std.proofs.Common.{◌≡◌, filter, map, take}
use Rattle.ctl_state.specs.State.{state_of}
use Rattle.ctl_waiting.specs.declared.ranking.Candidate.{Candidate}
use Rattle.ctl_waiting.specs.Candidates.{is_candidate}
use Rattle.ctl_waiting.proofs.Orders.{with_key}
use Rattle.ctl_waiting.proofs.ranking.candidates_of.Given as goal

-- the candidates so far
abbrev pub invariant-loop-job : goal.invariant-loop-job
invariant-loop-job l =
    map (λ (one : Candidate). (one.job.now, one.key)) l.some.items
    ≡ map (with_key (state_of l.cluster) l.factors.moment)
    (filter (is_candidate (state_of l.cluster) l.factors.moment) (take l.job-index l.cluster.jobs.records))
