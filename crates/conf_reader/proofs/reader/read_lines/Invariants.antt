use Rattle.std.proofs.Common.{◌≡◌, ◌+◌, ◌≤◌, length}
use Rattle.std.specs.Option.{option_copied}
use Rattle.conf_reader.specs.Lines.{lines_of_rest, logical_lines, bytes_left}
use Rattle.conf_reader.specs.Reader.{after_lines, nothing_said}
use Rattle.conf_reader.proofs.reader.read_lines.Given as goal

abbrev pub decreases-loop-rest : goal.decreases-loop-rest
decreases-loop-rest l = bytes_left (option_copied l.rest)

abbrev pub invariant-loop-rest : goal.invariant-loop-rest
invariant-loop-rest l =
    (after_lines l.draft (lines_of_rest l.number (option_copied l.rest)) ≡ after_lines nothing_said (logical_lines l.file))
    × (l.number + bytes_left (option_copied l.rest) ≤ 2 + length l.file)
