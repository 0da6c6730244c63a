use Rattle.sacct_book.proofs.Overlap.{seconds_in-overlap}
use Rattle.sacct_book.proofs.laws.windows_and_stretches_overlap.Goals as goal

pub returns : goal.returns
returns c = seconds_in-overlap
