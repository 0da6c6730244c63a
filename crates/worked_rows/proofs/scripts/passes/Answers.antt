-- Each row computes.
use Rattle.std.proofs.Common.{refl}
use Rattle.worked_rows.proofs.Opened.{clusters, headers, plans}
use Rattle.worked_rows.proofs.scripts.passes.Goals as goal

pub returns-clause-denied : goal.returns-clause-denied
unfolding clusters headers plans
returns-clause-denied c = refl

pub returns-clause-idle : goal.returns-clause-idle
unfolding clusters headers plans
returns-clause-idle c = refl

pub returns-clause-started : goal.returns-clause-started
unfolding clusters headers plans
returns-clause-started c = refl

pub returns-clause-planned : goal.returns-clause-planned
unfolding clusters headers plans
returns-clause-planned c = refl
