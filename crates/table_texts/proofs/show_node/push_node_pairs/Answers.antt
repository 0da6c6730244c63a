use Rattle.std.proofs.Common.{append_assoc}
use Rattle.table_texts.specs.ShowNode.{node_pairs}
use Rattle.table_texts.proofs.show_node.push_node_pairs.Goals as goal

pub returns : goal.returns
unfolding node_pairs
returns c =
    rw (
      c.in_ok-push_labelled-4.ensures,
      c.in_ok-push_labelled-3.ensures,
      c.in_ok-push_labelled-2.ensures,
      c.in_ok-push_labelled.ensures,
      c.in_ok-push_pair.ensures,
      c.as_bytes.ensures.value,
    ) (simp append_assoc)
