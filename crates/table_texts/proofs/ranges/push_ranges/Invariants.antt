use Rattle.std.proofs.Common.{◌≡◌, ◌++◌, drop}
use Rattle.table_texts.specs.Ranges.{continued, runs, runs_text, ranges_text}
use Rattle.table_texts.proofs.ranges.push_ranges.Given as goal

abbrev pub invariant-loop-number : goal.invariant-loop-number
invariant-loop-number l =
    l.out.items ++ runs_text (continued l.first l.last (runs (drop l.number-index l.others))) ≡ l.initial.out.items ++ ranges_text l.numbers
