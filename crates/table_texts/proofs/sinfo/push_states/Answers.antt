use Rattle.std.proofs.Common.{append_assoc}
use Rattle.table_texts.proofs.sinfo.push_states.Goals as goal

pub returns : goal.returns
returns c = rw (c.in_ok-push_text.ensures, c.in_ok-push_names.ensures, c.in_ok-push_cell-2.ensures, c.in_ok-push_count.ensures, c.in_ok-push_longest.ensures, c.in_ok-push_cell.ensures, c.in_ok-push_partition.ensures, c.avail.ensures, c.code.ensures, c.as_slice.ensures, c.as_slice-2.ensures) (simp append_assoc)
