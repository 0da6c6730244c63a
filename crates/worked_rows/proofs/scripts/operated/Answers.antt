-- Each row computes.
use Rattle.std.proofs.Common.{refl}
use Rattle.worked_rows.proofs.Opened.{clusters, headers, asked, plans}
use Rattle.worked_rows.proofs.scripts.operated.Goals as goal

pub returns-clause-hold : goal.returns-clause-hold
unfolding clusters headers asked plans
returns-clause-hold c = refl

pub returns-clause-release : goal.returns-clause-release
unfolding clusters headers asked plans
returns-clause-release c = refl

pub returns-clause-shutdown : goal.returns-clause-shutdown
unfolding clusters headers asked plans
returns-clause-shutdown c = refl

pub returns-clause-partition : goal.returns-clause-partition
unfolding clusters headers asked plans
returns-clause-partition c = refl
