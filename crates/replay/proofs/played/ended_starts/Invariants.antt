use Rattle.std.proofs.Common.{◌≡◌, take, flat_map}
use Rattle.std.specs.List.{filter_map}
use Rattle.replay.specs.Replay.{ended_start}
use Rattle.replay.specs.declared.played.Played.{Played}
use Rattle.replay.proofs.played.ended_starts.Given as goal

abbrev pub invariant-loop-one : goal.invariant-loop-one
invariant-loop-one l =
    l.starts.items ≡ flat_map (λ (one : Played). filter_map (ended_start l.now) one.runs) (take l.one-index l.played)
