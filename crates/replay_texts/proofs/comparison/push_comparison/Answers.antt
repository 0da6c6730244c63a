use Rattle.std.proofs.Common.{append_assoc}
use Rattle.replay_texts.specs.Comparisons.{comparison_text}
use Rattle.replay_texts.proofs.comparison.push_comparison.Goals as goal

pub returns : goal.returns
unfolding comparison_text
returns c =
    rw (
      c.in_ok-push_changes-2.ensures,
      c.in_ok-push_changes.ensures,
      c.in_ok-push_uses.ensures,
      c.in_ok-push_slowdowns.ensures,
      c.in_ok-push_waits.ensures,
      c.in_ok-push_counts.ensures,
      c.in_ok-push_text.ensures,
    ) (simp append_assoc)
