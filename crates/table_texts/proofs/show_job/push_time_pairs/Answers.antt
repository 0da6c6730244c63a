use Rattle.std.proofs.Common.{append_assoc}
use Rattle.table_texts.specs.ShowJob.{time_pairs}
use Rattle.table_texts.proofs.show_job.push_time_pairs.Goals as goal

pub returns : goal.returns
unfolding time_pairs
returns c =
    rw (
      c.in_ok-push_end.ensures,
      c.in_ok-push_text-4.ensures,
      c.in_ok-push_moment_or_null.ensures,
      c.in_ok-push_text-3.ensures,
      c.in_ok-push_moment-2.ensures,
      c.in_ok-push_text-2.ensures,
      c.in_ok-push_moment.ensures,
      c.in_ok-push_text.ensures,
    ) (simp append_assoc)
