use Rattle.std.proofs.Common.{◌≡◌, length}
use Rattle.std.specs.List.{list_any}
use Rattle.text_values.specs.Arguments.{parts_left, rows}
use Rattle.command_words.specs.Cancel.{cancel_parts, is_user}
use Rattle.command_words.proofs.cancel.names_user.Given as goal

abbrev pub decreases-loop-argument : goal.decreases-loop-argument
decreases-loop-argument l = length (parts_left (rows l.table) l.words l.cursor)

abbrev pub invariant-loop-argument : goal.invariant-loop-argument
invariant-loop-argument l =
    list_any is_user (parts_left (rows l.table) l.words l.cursor)
    ≡ list_any is_user (cancel_parts (rows l.table) l.words)
