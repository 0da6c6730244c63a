use Rattle.sacct_book.proofs.Quiet.{quiet-same}
use Rattle.sacct_book.proofs.laws.few_requests_change_what_runs.Goals as goal

pub returns : goal.returns
returns c = quiet-same
