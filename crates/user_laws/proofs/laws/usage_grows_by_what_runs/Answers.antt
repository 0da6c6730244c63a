use Rattle.user_laws.proofs.Charging.{step_grows, step_used}
use Rattle.user_laws.proofs.Using.{grows_in_time}
use Rattle.user_laws.proofs.laws.usage_grows_by_what_runs.Goals as goal

pub returns-clause-grows : goal.returns-clause-grows
returns-clause-grows c = step_grows (record {
  plans = record {
    apart = c.placements_are_of_ranked_jobs.ensures.apart;
    candidates = c.planned_jobs_are_candidates.ensures;
    order = c.a_stable_sort_makes_the_order.ensures.apart;
  };
  silence = c.silence_keeps_all_sound.ensures;
  planned = c.what_a_pass_plans_is_sound.ensures;
})

pub returns-clause-steps : goal.returns-clause-steps
returns-clause-steps c = step_used (record {
  plans = record {
    apart = c.placements_are_of_ranked_jobs.ensures.apart;
    candidates = c.planned_jobs_are_candidates.ensures;
    order = c.a_stable_sort_makes_the_order.ensures.apart;
  };
  silence = c.silence_keeps_all_sound.ensures;
  planned = c.what_a_pass_plans_is_sound.ensures;
})

pub returns-clause-time : goal.returns-clause-time
returns-clause-time c = grows_in_time
