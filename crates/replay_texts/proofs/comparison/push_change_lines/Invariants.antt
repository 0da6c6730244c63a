use Rattle.std.proofs.Common.{◌≡◌, ◌++◌, take, flat_map}
use Rattle.replay_texts.specs.Comparisons.{change_line}
use Rattle.replay_texts.proofs.comparison.push_change_lines.Given as goal

abbrev pub invariant-loop-change : goal.invariant-loop-change
invariant-loop-change l =
    l.out.items ≡ l.initial.out.items ++ flat_map change_line (take l.change-index l.changes)
