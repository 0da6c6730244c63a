use Rattle.std.proofs.Common.{append_assoc}
use Rattle.replay_texts.specs.Groups.{sums_cells}
use Rattle.replay_texts.proofs.groups.push_sums.Goals as goal

pub returns : goal.returns
unfolding sums_cells
returns c =
    rw (c.in_ok-push_text.ensures, c.in_ok-push_use.ensures, c.in_ok-push_slowdowns.ensures, c.in_ok-push_numbers.ensures, c.in_ok-push_number_cell-2.ensures, c.in_ok-push_number_cell.ensures) (simp append_assoc)
