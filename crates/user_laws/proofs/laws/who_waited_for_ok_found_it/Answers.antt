use Rattle.user_laws.proofs.Waiting.{found_ok}
use Rattle.user_laws.proofs.laws.who_waited_for_ok_found_it.Goals as goal

pub returns : goal.returns
returns c = found_ok (record {
  plans = record {
    apart = c.placements_are_of_ranked_jobs.ensures.apart;
    candidates = c.planned_jobs_are_candidates.ensures;
    order = c.a_stable_sort_makes_the_order.ensures.apart;
  };
  silence = c.silence_keeps_all_sound.ensures;
  planned = c.what_a_pass_plans_is_sound.ensures;
}) c.a_job_started_by_a_pass_was_planned.ensures
