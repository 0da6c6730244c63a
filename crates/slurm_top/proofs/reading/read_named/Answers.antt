use Rattle.std.proofs.Common.{arith}
use Rattle.slurm_top.proofs.Inputs.{long_told}
use Rattle.slurm_top.proofs.reading.read_named.Goals as goal

pub returns-else-len-le-LONGEST_SCRIPT-clause-read : goal.returns-else-len-le-LONGEST_SCRIPT-clause-read
returns-else-len-le-LONGEST_SCRIPT-clause-read g c = (
  long_told (g.Q.Shelf.files c.args.shelf.now) c.args.name.now c.in-Ok.script.items c.in-Ok.ensures.read
      (omega (arith, c.if-len-le-LONGEST_SCRIPT.false, c.len.ensures)),
  c.in-Ok.ensures.faults,
)
