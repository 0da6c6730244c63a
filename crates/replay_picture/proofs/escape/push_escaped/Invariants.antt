use Rattle.std.proofs.Common.{◌≡◌, ◌++◌, take, flat_map}
use Rattle.replay_picture.specs.Escape.{escaped_byte}
use Rattle.replay_picture.proofs.escape.push_escaped.Given as goal

abbrev pub invariant-loop-b : goal.invariant-loop-b
invariant-loop-b l = l.out.items ≡ l.initial.out.items ++ flat_map escaped_byte (take l.b-index l.text)
