use Rattle.std.proofs.Common.{◌≡◌, ◌+◌, ◌≤◌, length, bytes_eq}
use Rattle.std.specs.HashSet.{contains}
use Rattle.std.specs.Option.{option_copied}
use Rattle.small_texts.specs.Fields.{fields, fields_of_rest}
use Rattle.assoc_reader.specs.Options.{text_left}
use Rattle.assoc_reader.specs.Reader.{after_lines, lines_say}
use Rattle.assoc_reader.proofs.reader.read_lines.Given as goal

abbrev pub decreases-loop-rest : goal.decreases-loop-rest
decreases-loop-rest l = text_left (option_copied l.rest)

abbrev pub invariant-loop-rest : goal.invariant-loop-rest
invariant-loop-rest l =
    (after_lines (contains bytes_eq l.known) l.draft l.number (fields_of_rest 10 (option_copied l.rest)) ≡ lines_say (fields 10 l.file))
    × (l.number + text_left (option_copied l.rest) ≤ 2 + length l.file)
