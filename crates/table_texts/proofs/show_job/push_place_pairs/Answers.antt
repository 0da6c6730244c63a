use Rattle.std.proofs.Common.{append_assoc}
use Rattle.table_texts.specs.ShowJob.{place_pairs}
use Rattle.table_texts.proofs.show_job.push_place_pairs.Goals as goal

pub returns : goal.returns
unfolding place_pairs
returns c =
    rw (
      c.in_ok-push_hosts_or_null.ensures,
      c.in_ok-push_text.ensures,
      c.in_ok-push_pair.ensures,
      c.as_slice.ensures,
      c.as_bytes.ensures.value,
    ) (simp append_assoc)
