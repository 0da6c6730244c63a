use Rattle.std.proofs.Common.{append_assoc}
use Rattle.slurm_print.proofs.refusal.push_refusal.Goals as goal

pub returns : goal.returns
returns c = rw (c.in_ok-push_text-5.ensures, c.in_ok-push_details.ensures, c.in_ok-push_text-4.ensures, c.in_ok-push_labelled.ensures, c.in_ok-push_text-3.ensures, c.in_ok-push_text-2.ensures, c.in_ok-push_text.ensures, c.name.ensures, c.number.ensures) (simp append_assoc)
