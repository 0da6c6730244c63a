use Rattle.ctl_server.proofs.SessionEnds.{end_well}
use Rattle.ctl_server.proofs.laws.sessions_end_well.Goals as goal

pub returns : goal.returns
returns c = end_well
