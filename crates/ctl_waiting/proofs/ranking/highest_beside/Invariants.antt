use Rattle.std.proofs.Common.{◌≡◌, take}
use Rattle.std.specs.Prelude.{IfSome, option_map}
use Rattle.ctl_state.specs.State.{state_of}
use Rattle.ctl_waiting.specs.declared.ranking.Candidate.{Candidate}
use Rattle.ctl_waiting.specs.Rank.{key_of}
use Rattle.ctl_waiting.proofs.Orders.{highest_of}
use Rattle.ctl_waiting.proofs.ranking.highest_beside.Given as goal

-- the highest of the candidates so far, with what it is ranked by
abbrev pub invariant-loop-job : goal.invariant-loop-job
invariant-loop-job l =
    (option_map (λ (one : Candidate). one.job.now) l.highest
    ≡ highest_of (state_of l.cluster) l.factors.moment (take l.job-index l.cluster.jobs.records))
    × IfSome l.highest (λ one. one.key ≡ key_of (state_of l.cluster) l.factors.moment one.job.now)
