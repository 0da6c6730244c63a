use Rattle.std.proofs.Common.{append_assoc}
use Rattle.slurm_print.proofs.text.push_passed.Goals as goal

pub returns : goal.returns
returns c = rw (c.in_ok-push_text.ensures, c.in_ok-push_labelled-3.ensures, c.in_ok-push_labelled-2.ensures, c.in_ok-push_labelled.ensures, c.from.ensures, c.from-2.ensures, c.from-3.ensures) (simp append_assoc)
