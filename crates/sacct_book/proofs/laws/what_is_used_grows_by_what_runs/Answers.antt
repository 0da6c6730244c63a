use Rattle.sacct_book.proofs.Pushing.{used_at-none, used_at-push}
use Rattle.sacct_book.proofs.laws.what_is_used_grows_by_what_runs.Goals as goal

pub returns-clause-opening : goal.returns-clause-opening
returns-clause-opening c = used_at-none

pub returns-clause-entry : goal.returns-clause-entry
returns-clause-entry c = used_at-push
