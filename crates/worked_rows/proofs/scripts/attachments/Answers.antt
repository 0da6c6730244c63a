-- Each row computes.
use Rattle.std.proofs.Common.{refl}
use Rattle.worked_rows.proofs.Opened.{clusters, headers, plans}
use Rattle.worked_rows.proofs.scripts.attachments.Goals as goal

pub returns-clause-read : goal.returns-clause-read
unfolding clusters headers plans
returns-clause-read c = refl

pub returns-clause-bad_value : goal.returns-clause-bad_value
unfolding clusters headers plans
returns-clause-bad_value c = refl

pub returns-clause-no_shell : goal.returns-clause-no_shell
unfolding clusters headers plans
returns-clause-no_shell c = refl

pub returns-clause-stray : goal.returns-clause-stray
unfolding clusters headers plans
returns-clause-stray c = refl
