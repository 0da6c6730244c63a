use Rattle.ctl_pass.proofs.laws.starts_are_free.Goals as goal

pub returns : goal.returns
returns c = λ s now. record {
  planned = c.planned_jobs_are_candidates.ensures s now;
  reserved = c.placements_keep_to_reservations.ensures s now;
  free = λ k d below. c.no_start_exceeds_a_limit.ensures s now k d below;
}
