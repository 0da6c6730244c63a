use Rattle.std.proofs.Common.{◌≡◌, ◌≤◌, length}
use Rattle.plain_data.specs.Confs.{node_names}
use Rattle.conf_reader.specs.NodeLines.{node_word, with_entry, no_node_words}
use Rattle.conf_reader.specs.Words.{said_by}
use Rattle.conf_reader.proofs.node_lines.read_node_line.Given as goal

abbrev pub decreases-loop-word : goal.decreases-loop-word
decreases-loop-word l = length l.rest

abbrev pub invariant-loop-word : goal.invariant-loop-word
invariant-loop-word l =
    (said_by with_entry (node_word (node_names l.known)) l.words l.rest ≡ said_by with_entry (node_word (node_names l.known)) no_node_words l.line)
    × (length l.rest ≤ length l.line)
