use Rattle.replay_run.proofs.Standing.{goes_further}
use Rattle.replay_run.proofs.working.go_further.Goals as goal

pub returns : goal.returns
returns c = goes_further _ _ _ _ _ _ _ _ _ c.requires c.in_ok-replaying.ensures c.in_ok-look.ensures
