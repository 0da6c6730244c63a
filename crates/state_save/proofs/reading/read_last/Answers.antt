use Rattle.state_save.proofs.reading.read_last.Goals as goal

pub returns-clause-read : goal.returns-clause-read
returns-clause-read c = record {
  behind_reservations = c.in_ok-reservations.rest.now;
  behind_arrays = c.in_ok-arrays.rest.now;
  behind_jobs = c.in_ok-jobs.rest.now;
  are_reservations = c.in_ok-reservations.ensures;
  are_arrays = c.in_ok-arrays.ensures;
  are_jobs = c.in_ok-jobs.ensures;
  are_plan = c.in_ok-plan.ensures;
}
