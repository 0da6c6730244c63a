use Rattle.user_laws.proofs.Staying.{none_begun, none_ended, none_started}
use Rattle.user_laws.proofs.laws.only_passes_start_jobs.Goals as goal

pub returns-clause-starts : goal.returns-clause-starts
returns-clause-starts c = none_started

pub returns-clause-runs : goal.returns-clause-runs
returns-clause-runs c = none_begun

pub returns-clause-ends : goal.returns-clause-ends
returns-clause-ends c = none_ended
