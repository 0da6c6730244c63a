use Rattle.std.proofs.Common.{append_assoc}
use Rattle.replay_texts.specs.Summaries.{reach_line}
use Rattle.replay_texts.proofs.summary.push_reach_line.Goals as goal

pub returns : goal.returns
unfolding reach_line
returns c =
    rw (c.in_ok-push_text-2.ensures, c.in_ok-push_number_cell-5.ensures, c.in_ok-push_number_cell-4.ensures, c.in_ok-push_number_cell-3.ensures, c.in_ok-push_number_cell-2.ensures, c.in_ok-push_number_cell.ensures, c.in_ok-push_label.ensures, c.in_ok-push_text.ensures, c.seconds_of.ensures) (simp append_assoc)
