use Rattle.std.proofs.Common.{◌≡◌, length, false}
use Rattle.text_values.specs.Arguments.{parts_left, rows}
use Rattle.command_words.specs.Queries.{said_by, nothing_said}
use Rattle.command_words.proofs.queries.read_options.Given as goal

abbrev pub decreases-loop-argument : goal.decreases-loop-argument
decreases-loop-argument l = length (parts_left (rows l.table) l.words l.cursor)

abbrev pub invariant-loop-argument : goal.invariant-loop-argument
invariant-loop-argument l =
    said_by l.said (parts_left (rows l.table) l.words l.cursor)
    ≡ said_by nothing_said (parts_left (rows l.table) l.words (record { place = 1; ended = false }))
