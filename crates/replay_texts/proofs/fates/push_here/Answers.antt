use Rattle.std.proofs.Common.{append_assoc}
use Rattle.replay_texts.proofs.fates.push_here.Goals as goal

pub returns : goal.returns
returns c =
    rw (c.in_ok-push_text-2.ensures, c.in_ok-push_text.ensures, c.in_ok-push_names.ensures, c.in_ok-push_known-3.ensures, c.in_ok-push_known-2.ensures, c.in_ok-push_known.ensures, c.wait_known.ensures) (simp append_assoc)
