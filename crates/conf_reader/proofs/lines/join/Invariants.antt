use Rattle.std.proofs.Common.{ℕ, ◌≡◌, ◌+◌, ◌≤◌, length}
use Rattle.std.specs.Option.{option_copied}
use Rattle.conf_reader.specs.Lines.{joined, lines_of_rest, bytes_left}
use Rattle.conf_reader.proofs.lines.join.Given as goal

abbrev pub invariant-loop-rest : goal.invariant-loop-rest
invariant-loop-rest l =
    ((number : ℕ) → joined number l.piece (lines_of_rest (number + 1) (option_copied l.initial.rest)) ≡ joined number l.joined.items (lines_of_rest (number + l.taken) (option_copied l.rest)))
    × (1 ≤ l.taken)
    × (l.taken + bytes_left (option_copied l.rest) ≤ 1 + bytes_left (option_copied l.initial.rest))
    × (length l.joined.items + bytes_left (option_copied l.rest) ≤ length l.piece + bytes_left (option_copied l.initial.rest))

abbrev pub decreases-loop-rest : goal.decreases-loop-rest
decreases-loop-rest l = bytes_left (option_copied l.rest)
