use Rattle.std.proofs.Common.{◌≡◌, ◌++◌, take, flat_map}
use Rattle.replay_texts.specs.Csv.{csv_line}
use Rattle.replay_texts.proofs.csv.push_lines.Given as goal

abbrev pub invariant-loop-outcome : goal.invariant-loop-outcome
invariant-loop-outcome l = l.out.items ≡ l.initial.out.items ++ flat_map csv_line (take l.outcome-index l.outcomes)
