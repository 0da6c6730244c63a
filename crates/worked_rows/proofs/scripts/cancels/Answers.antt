-- Each row computes.
use Rattle.std.proofs.Common.{refl}
use Rattle.worked_rows.proofs.Opened.{clusters, headers, told, plans, rows}
use Rattle.worked_rows.proofs.scripts.cancels.Goals as goal

pub returns-clause-cancelled : goal.returns-clause-cancelled
unfolding clusters headers told plans rows
returns-clause-cancelled c = refl

pub returns-clause-shown : goal.returns-clause-shown
unfolding clusters headers told plans rows
returns-clause-shown c = refl

pub returns-clause-unknown : goal.returns-clause-unknown
unfolding clusters headers told plans rows
returns-clause-unknown c = refl
