use Rattle.std.proofs.Common.{arith}
use Rattle.slurm_session.proofs.Endings.{long_is}
use Rattle.slurm_session.proofs.running.read_text.Goals as goal

pub returns-then-len-gt-LONGEST_TEXT-clause-read : goal.returns-then-len-gt-LONGEST_TEXT-clause-read
returns-then-len-gt-LONGEST_TEXT-clause-read g c = (
  long_is (g.Q.Shelf.files c.args.shelf.now) c.args.name.now c.in-Ok.text.items c.in-Ok.ensures.read
      (omega (arith, c.if-len-gt-LONGEST_TEXT.true, c.len.ensures, c.in-Ok.text.ok.0)),
  c.in-Ok.ensures.faults,
)
