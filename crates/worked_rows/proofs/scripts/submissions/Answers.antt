-- Each row computes.
use Rattle.std.proofs.Common.{refl}
use Rattle.worked_rows.proofs.Opened.{clusters, headers, plans}
use Rattle.worked_rows.proofs.scripts.submissions.Goals as goal

pub returns-clause-empty : goal.returns-clause-empty
unfolding clusters headers plans
returns-clause-empty c = refl

pub returns-clause-one : goal.returns-clause-one
unfolding clusters headers plans
returns-clause-one c = refl

pub returns-clause-numbered : goal.returns-clause-numbered
unfolding clusters headers plans
returns-clause-numbered c = refl

pub returns-clause-wide : goal.returns-clause-wide
unfolding clusters headers plans
returns-clause-wide c = refl

pub returns-clause-refused_first : goal.returns-clause-refused_first
unfolding clusters headers plans
returns-clause-refused_first c = refl

pub returns-clause-cut : goal.returns-clause-cut
unfolding clusters headers plans
returns-clause-cut c = refl

pub returns-clause-empty_line : goal.returns-clause-empty_line
unfolding clusters headers plans
returns-clause-empty_line c = refl

pub returns-clause-stranger : goal.returns-clause-stranger
unfolding clusters headers plans
returns-clause-stranger c = refl

pub returns-clause-no_partition : goal.returns-clause-no_partition
unfolding clusters headers plans
returns-clause-no_partition c = refl

pub returns-clause-late : goal.returns-clause-late
unfolding clusters headers plans
returns-clause-late c = refl
