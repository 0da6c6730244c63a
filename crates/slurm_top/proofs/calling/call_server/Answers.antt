use Rattle.slurm_top.proofs.CallEnds.{caused, decided, spent}
use Rattle.slurm_top.proofs.calling.call_server.Goals as goal

pub returns-clause-caused : goal.returns-clause-caused
returns-clause-caused g c = caused c.args.call.now _ _ _ _ c.read_and_call.result c.read_and_call.ensures

pub returns-clause-decided : goal.returns-clause-decided
returns-clause-decided g c = decided c.args.call.now _ _ _ _ c.read_and_call.result c.read_and_call.ensures

pub returns-clause-spent : goal.returns-clause-spent
returns-clause-spent g c = spent c.args.call.now _ _ _ _ c.read_and_call.result c.read_and_call.ensures
