use Rattle.std.proofs.Common.{append_assoc}
use Rattle.table_texts.specs.ShowJob.{job_line}
use Rattle.table_texts.proofs.show_job.push_job_line.Goals as goal

pub returns : goal.returns
unfolding job_line
returns c =
    rw (
      c.in_ok-push_text.ensures,
      c.in_ok-push_held_pairs.ensures,
      c.in_ok-push_place_pairs.ensures,
      c.in_ok-push_time_pairs.ensures,
      c.in_ok-push_length_pairs.ensures,
      c.in_ok-push_start_pairs.ensures,
      c.in_ok-push_state_pairs.ensures,
      c.in_ok-push_owner_pairs.ensures,
      c.in_ok-push_job_pairs.ensures,
    ) (simp append_assoc)
