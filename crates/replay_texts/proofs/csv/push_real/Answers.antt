use Rattle.std.proofs.Common.{append_assoc}
use Rattle.replay_texts.proofs.csv.push_real.Goals as goal

pub returns : goal.returns
returns c =
    rw (c.in_ok-push_known-3.ensures, c.in_ok-push_known-2.ensures, c.in_ok-push_known.ensures, c.in_ok-push_name.ensures, c.in_ok-push_id.ensures) (simp append_assoc)
