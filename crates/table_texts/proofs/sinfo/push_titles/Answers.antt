use Rattle.std.proofs.Common.{append_assoc}
use Rattle.table_texts.proofs.sinfo.push_titles.Goals as goal

pub returns : goal.returns
returns c = rw (c.in_ok-push_text.ensures, c.in_ok-push_cell-4.ensures, c.in_ok-push_cell-3.ensures, c.in_ok-push_cell-2.ensures, c.in_ok-push_cell.ensures, c.in_ok-push_left_cell.ensures) (simp append_assoc)
