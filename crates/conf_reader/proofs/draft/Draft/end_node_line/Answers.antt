use Rattle.std.proofs.Common.{◌≡◌, false, rules}
use Rattle.conf_reader.specs.NodeLines.{is_for_nodes}
use Rattle.conf_reader.specs.Reader.{after_node_line}
use Rattle.conf_reader.proofs.draft.Draft.end_node_line.Goals as goal

pub returns-clause-refused : goal.returns-clause-refused
unfolding after_node_line
returns-clause-refused c = λ k h.
    let others : is_for_nodes c.args.own.names ≡ false = search rules in
    rw (others, ← c.in_ok-words.ensures) (c.add_nodes.ensures.refused k h)
