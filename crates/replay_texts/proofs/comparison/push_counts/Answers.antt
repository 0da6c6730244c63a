use Rattle.std.proofs.Common.{append_assoc}
use Rattle.replay_texts.specs.Comparisons.{count_rows}
use Rattle.replay_texts.proofs.comparison.push_counts.Goals as goal

pub returns : goal.returns
unfolding count_rows
returns c =
    rw (c.in_ok-push_row-5.ensures, c.in_ok-push_row-4.ensures, c.in_ok-push_row-3.ensures, c.in_ok-push_row-2.ensures, c.in_ok-push_row.ensures) (simp append_assoc)
