use Rattle.std.proofs.Common.{append_assoc}
use Rattle.slurm_print.proofs.text.push_created.Goals as goal

pub returns : goal.returns
returns c =
    rw (c.in_ok-push_text.ensures, c.in_ok-push_pair.ensures, c.as_bytes.ensures.value) (simp append_assoc)
