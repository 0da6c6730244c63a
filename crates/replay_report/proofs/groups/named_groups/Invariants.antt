use Rattle.std.proofs.Common.{◌≡◌, Some, map, take}
use Rattle.std.specs.List.{All}
use Rattle.replay_report.specs.Sums.{AreGroupSums}
use Rattle.replay_report.specs.declared.groups.GroupSums.{GroupSums}
use Rattle.replay_report.proofs.groups.named_groups.Given as goal

abbrev pub invariant-loop-name : goal.invariant-loop-name
invariant-loop-name l = record {
  names : map (λ (group : GroupSums). group.name) l.groups.items ≡ map (λ name. Some name) (take l.name-index l.names);
  sums : All (AreGroupSums l.kind l.outcomes) l.groups.items;
}
