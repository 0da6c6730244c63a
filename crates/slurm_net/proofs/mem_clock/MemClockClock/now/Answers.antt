use Rattle.slurm_net.specs.MemClock.{course_of}
use Rattle.slurm_net.proofs.Telling.{goes_on}
use Rattle.slurm_net.proofs.mem_clock.MemClockClock.now.Goals as goal

pub returns-clause-tells : goal.returns-clause-tells
returns-clause-tells c = goes_on (course_of c.args.self.now) _ _ c.saturating_add-self.ensures
