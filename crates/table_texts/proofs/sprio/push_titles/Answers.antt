use Rattle.std.proofs.Common.{append_assoc}
use Rattle.table_texts.proofs.sprio.push_titles.Goals as goal

pub returns : goal.returns
returns c = rw (c.in_ok-push_last.ensures, c.in_ok-push_cell-9.ensures, c.in_ok-push_cell-8.ensures, c.in_ok-push_cell-7.ensures, c.in_ok-push_cell-6.ensures, c.in_ok-push_cell-5.ensures, c.in_ok-push_cell-4.ensures, c.in_ok-push_cell-3.ensures, c.in_ok-push_cell-2.ensures, c.in_ok-push_cell.ensures) (simp append_assoc)
