use Rattle.std.proofs.Common.{◌≡◌, ◌≤◌, ◌<◌, All, length, map, take}
use Rattle.std.specs.List.{filter_map}
use Rattle.backfill_planner.specs.declared.job.PlanJob.{PlanJob}
use Rattle.ctl_state.specs.State.{state_of}
use Rattle.ctl_waiting.specs.declared.ranking.Candidate.{Candidate}
use Rattle.ctl_waiting.specs.Candidates.{needs_of}
use Rattle.ctl_waiting.proofs.ranking.needs_of.Given as goal

-- what the jobs so far need
abbrev pub invariant-loop-candidate : goal.invariant-loop-candidate
invariant-loop-candidate l = record {
  ranked : l.ranked.items ≡ filter_map (needs_of (state_of l.cluster) l.grounds.moment)
      (map (λ (one : Candidate). one.job.now) (take l.candidate-index l.candidates));
  nodes : All (λ (job : PlanJob). All (λ node. node < length l.cluster.nodes.records) job.nodes) l.ranked.items;
  tasks : All (λ (job : PlanJob). 1 ≤ job.need.tasks) l.ranked.items;
}
