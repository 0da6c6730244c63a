-- Each row computes.
use Rattle.std.proofs.Common.{refl}
use Rattle.worked_rows.proofs.Opened.{clusters, headers, told, orders}
use Rattle.worked_rows.proofs.scripts.reports.Goals as goal

pub returns-clause-denied : goal.returns-clause-denied
unfolding clusters headers told orders
returns-clause-denied c = refl

pub returns-clause-stale : goal.returns-clause-stale
unfolding clusters headers told orders
returns-clause-stale c = refl

pub returns-clause-restarted : goal.returns-clause-restarted
unfolding clusters headers told orders
returns-clause-restarted c = refl

pub returns-clause-unknown_node : goal.returns-clause-unknown_node
unfolding clusters headers told orders
returns-clause-unknown_node c = refl

pub returns-clause-unknown_starts : goal.returns-clause-unknown_starts
unfolding clusters headers told orders
returns-clause-unknown_starts c = refl
