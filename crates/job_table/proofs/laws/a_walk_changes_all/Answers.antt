use Rattle.job_table.proofs.Walks.{length-walked, slice_get-walked, walked-begins, walked-ends, walked-goes_on, walked-leaves_out}
use Rattle.job_table.proofs.laws.a_walk_changes_all.Goals as goal

pub returns : goal.returns
returns g c = record {
  begins = walked-begins;
  goes_on = walked-goes_on;
  ends = walked-ends;
  length = length-walked;
  rest = slice_get-walked;
  leaves_out = walked-leaves_out;
}
