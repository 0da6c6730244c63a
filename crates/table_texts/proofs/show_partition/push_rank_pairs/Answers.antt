use Rattle.std.proofs.Common.{append_assoc}
use Rattle.table_texts.specs.ShowPartition.{rank_pairs}
use Rattle.table_texts.proofs.show_partition.push_rank_pairs.Goals as goal

pub returns : goal.returns
unfolding rank_pairs
returns c =
    rw (
      c.in_ok-push_labelled-3.ensures,
      c.in_ok-push_hosts_or_null.ensures,
      c.in_ok-push_text.ensures,
      c.in_ok-push_labelled-2.ensures,
      c.in_ok-push_labelled.ensures,
      c.as_slice.ensures,
    ) (simp append_assoc)
