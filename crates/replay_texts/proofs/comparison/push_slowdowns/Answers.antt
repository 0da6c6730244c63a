use Rattle.std.proofs.Common.{append_assoc}
use Rattle.replay_texts.specs.Comparisons.{slowdown_rows}
use Rattle.replay_texts.proofs.comparison.push_slowdowns.Goals as goal

pub returns : goal.returns
unfolding slowdown_rows
returns c =
    rw (
      c.in_ok-push_hundredths_row-3.ensures,
      c.in_ok-push_hundredths_row-2.ensures,
      c.in_ok-push_hundredths_row.ensures,
      c.mean_in.ensures,
      c.mean_in-2.ensures,
      c.median_in.ensures,
      c.median_in-2.ensures,
      c.high_in.ensures,
      c.high_in-2.ensures,
    ) (simp append_assoc)
