use Rattle.std.proofs.Common.{◌≡◌, filter_map, take}
use Rattle.replay.specs.Replay.{played_of}
use Rattle.replay.proofs.nodes.started.Given as goal

abbrev pub invariant-loop-row : goal.invariant-loop-row
invariant-loop-row l = l.played.items ≡ filter_map played_of (take l.row-index l.rows)
