use Rattle.daemon_world.proofs.Once.{starts_end}
use Rattle.daemon_world.proofs.laws.starts_end_once.Goals as goal

pub returns : goal.returns
returns c = starts_end c.every_event_keeps_all_together.ensures.together (record {
  plans = record {
    apart = c.placements_are_of_ranked_jobs.ensures.apart;
    candidates = c.planned_jobs_are_candidates.ensures;
    order = c.a_stable_sort_makes_the_order.ensures.apart;
  };
  silence = c.silence_keeps_all_sound.ensures;
  planned = c.what_a_pass_plans_is_sound.ensures;
})
