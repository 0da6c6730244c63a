use Rattle.sacct_book.proofs.Others.{others-stay}
use Rattle.sacct_book.proofs.laws.jobs_that_are_not_named_hold_what_they_held.Goals as goal

pub returns : goal.returns
returns c = others-stay
