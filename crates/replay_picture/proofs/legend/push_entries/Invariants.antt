use Rattle.std.proofs.Common.{◌≡◌, ◌++◌, drop}
use Rattle.replay_picture.specs.Legend.{entries_text}
use Rattle.replay_picture.proofs.legend.push_entries.Given as goal

abbrev pub invariant-loop-name : goal.invariant-loop-name
invariant-loop-name l =
    (l.place ≡ l.name-index)
    × (l.out.items ++ entries_text l.place (drop l.name-index l.names) ≡ l.fn.out.items ++ entries_text 0 l.names)
