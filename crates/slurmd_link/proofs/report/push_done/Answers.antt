use Rattle.std.proofs.Common.{arith}
use Rattle.slurmd_link.proofs.WordBytes.{done_good}
use Rattle.slurmd_link.proofs.report.push_done.Goals as goal

pub returns-in_err-push_start-clause-word : goal.returns-in_err-push_start-clause-word
returns-in_err-push_start-clause-word c = done_good c.args.done.now c.push_start.ensures.word (omega arith)

pub returns-clause-word : goal.returns-clause-word
returns-clause-word c = done_good c.args.done.now c.push_start.ensures.word (omega arith)
