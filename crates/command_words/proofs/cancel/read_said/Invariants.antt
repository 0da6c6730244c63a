use Rattle.std.proofs.Common.{◌≡◌, length}
use Rattle.text_values.specs.Arguments.{parts_left, rows}
use Rattle.command_words.specs.Cancel.{cancel_parts, said_by, nothing_said}
use Rattle.command_words.proofs.cancel.read_said.Given as goal

abbrev pub decreases-loop-argument : goal.decreases-loop-argument
decreases-loop-argument l = length (parts_left (rows l.table) l.words l.cursor)

abbrev pub invariant-loop-argument : goal.invariant-loop-argument
invariant-loop-argument l =
    said_by l.by_user l.said (parts_left (rows l.table) l.words l.cursor)
    ≡ said_by l.by_user nothing_said (cancel_parts (rows l.table) l.words)
