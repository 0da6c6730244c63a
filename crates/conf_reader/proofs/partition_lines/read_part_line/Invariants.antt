use Rattle.std.proofs.Common.{◌≡◌, ◌≤◌, length}
use Rattle.conf_reader.specs.PartitionLines.{partition_names, part_word, with_part, no_part_words}
use Rattle.conf_reader.specs.Words.{said_by}
use Rattle.conf_reader.proofs.partition_lines.read_part_line.Given as goal

abbrev pub decreases-loop-word : goal.decreases-loop-word
decreases-loop-word l = length l.rest

abbrev pub invariant-loop-word : goal.invariant-loop-word
invariant-loop-word l =
    (said_by with_part (part_word (partition_names l.known)) l.words l.rest ≡ said_by with_part (part_word (partition_names l.known)) no_part_words l.line)
    × (length l.rest ≤ length l.line)
