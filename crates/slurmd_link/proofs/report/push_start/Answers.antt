use Rattle.std.proofs.Common.{arith}
use Rattle.slurmd_link.proofs.WordBytes.{start_good}
use Rattle.slurmd_link.proofs.report.push_start.Goals as goal

pub returns-in_err-push_number-clause-word : goal.returns-in_err-push_number-clause-word
returns-in_err-push_number-clause-word c = start_good c.args.start.now (omega arith) (omega arith)

pub returns-clause-word : goal.returns-clause-word
returns-clause-word c = start_good c.args.start.now (omega arith) (omega arith)
