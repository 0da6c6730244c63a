use Rattle.std.proofs.Common.{arith}
use Rattle.sacct_book.proofs.Overlap.{seconds_in-overlap}
use Rattle.sacct_book.proofs.window.seconds_in.Goals as goal

pub returns : goal.returns
returns c = omega (arith, seconds_in-overlap c.args.window c.args.from c.args.until)
