use Rattle.ctl_pass.specs.Readiness.{jobs_left, placements}
use Rattle.ctl_pass.proofs.Starting.{within-limits}
use Rattle.ctl_pass.proofs.laws.no_start_exceeds_a_limit.Goals as goal

pub returns : goal.returns
returns c = λ s now k d below. within-limits s now (jobs_left s now) (placements s now) k d below
