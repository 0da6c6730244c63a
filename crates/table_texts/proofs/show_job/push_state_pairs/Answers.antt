use Rattle.std.proofs.Common.{append_assoc}
use Rattle.table_texts.specs.ShowJob.{state_pairs}
use Rattle.table_texts.proofs.show_job.push_state_pairs.Goals as goal

pub returns : goal.returns
unfolding state_pairs
returns c =
    rw (
      c.in_ok-push_dependency.ensures,
      c.in_ok-push_text.ensures,
      c.in_ok-push_pair-2.ensures,
      c.in_ok-push_pair.ensures,
      c.state_word.ensures,
      c.reason_or_none.ensures,
    ) (simp append_assoc)
