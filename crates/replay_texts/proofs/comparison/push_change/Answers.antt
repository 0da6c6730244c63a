use Rattle.std.proofs.Common.{append_assoc}
use Rattle.replay_texts.specs.Comparisons.{change_line}
use Rattle.replay_texts.proofs.comparison.push_change.Goals as goal

pub returns : goal.returns
unfolding change_line
returns c =
    rw (c.in_ok-push_text-2.ensures, c.in_ok-push_id.ensures, c.in_ok-push_text.ensures, c.in_ok-push_number_cell-4.ensures, c.in_ok-push_number_cell-3.ensures, c.in_ok-push_number_cell-2.ensures, c.in_ok-push_number_cell.ensures) (simp append_assoc)
