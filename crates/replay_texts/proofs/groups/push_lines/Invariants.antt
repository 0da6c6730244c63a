use Rattle.std.proofs.Common.{◌≡◌, ◌++◌, take, flat_map}
use Rattle.replay_texts.specs.Groups.{group_line}
use Rattle.replay_texts.proofs.groups.push_lines.Given as goal

abbrev pub invariant-loop-group : goal.invariant-loop-group
invariant-loop-group l =
    l.out.items ≡ l.initial.out.items ++ flat_map (group_line l.capacity) (take l.group-index l.groups)
