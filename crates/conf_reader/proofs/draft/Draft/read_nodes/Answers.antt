use Rattle.conf_reader.proofs.draft.Draft.read_nodes.Goals as goal

pub returns-clause-refused : goal.returns-clause-refused
returns-clause-refused c = λ k h. rw (c.in_ok-own.ensures.value) (c.end_node_line.ensures.refused k h)
