use Rattle.std.proofs.Common.{arith}
use Rattle.state_save.proofs.JobWords.{job_good}
use Rattle.state_save.proofs.job_line.SavedJobLine.tell_lines.Goals as goal

pub returns : goal.returns
returns c = record { words = job_good; order = λ one other third h k. omega arith }
