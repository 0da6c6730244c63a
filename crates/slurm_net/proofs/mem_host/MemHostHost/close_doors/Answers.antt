use Rattle.slurm_net.proofs.Closing.{sessions_told}
use Rattle.slurm_net.proofs.mem_host.MemHostHost.close_doors.Goals as goal

pub returns-clause-closed : goal.returns-clause-closed
returns-clause-closed c = sessions_told c.args.doors.items
