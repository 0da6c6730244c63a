use Rattle.std.proofs.Common.{◌≡◌, ◌++◌, take, flat_map}
use Rattle.replay_picture.specs.Nodes.{shade_text}
use Rattle.replay_picture.proofs.nodes.push_all_shades.Given as goal

abbrev pub invariant-loop-shade : goal.invariant-loop-shade
invariant-loop-shade l =
    l.out.items ≡ l.initial.out.items ++ flat_map (shade_text l.row l.period) (take l.shade-index l.shades)
