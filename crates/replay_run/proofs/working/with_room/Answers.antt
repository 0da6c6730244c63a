use Rattle.replay_run.proofs.Standing.{renewed_so}
use Rattle.replay_run.proofs.working.with_room.Goals as goal

pub returns-in-Ok : goal.returns-in-Ok
returns-in-Ok c =
    let new = c.in-Ok.ensures in
    renewed_so _ _ _ _ _ new.0 _ _ c.requires new.1 new.2
