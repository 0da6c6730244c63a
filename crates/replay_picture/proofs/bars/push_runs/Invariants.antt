use Rattle.std.proofs.Common.{◌≡◌, ◌++◌, take, flat_map}
use Rattle.replay_picture.specs.Bars.{run_text}
use Rattle.replay_picture.proofs.bars.push_runs.Given as goal

abbrev pub invariant-loop-run : goal.invariant-loop-run
invariant-loop-run l =
    l.out.items ≡ l.initial.out.items ++ flat_map (run_text l.row l.stay l.label) (take l.run-index l.found)
