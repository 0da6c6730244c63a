use Rattle.user_laws.proofs.Parting.{plan_parted}
use Rattle.user_laws.proofs.starts.the_plan_is_whole.Goals as goal

pub returns : goal.returns
returns c = plan_parted (record {
  passes = record {
    plans = record {
      apart = c.placements_are_of_ranked_jobs.ensures.apart;
      candidates = c.planned_jobs_are_candidates.ensures;
      order = c.a_stable_sort_makes_the_order.ensures.apart;
    };
    silence = c.silence_keeps_all_sound.ensures;
    planned = c.what_a_pass_plans_is_sound.ensures;
  };
  all = c.starts_of_passes_get_all_they_planned.ensures;
  sound = c.a_whole_pass_keeps_all_sound.ensures;
}) c.an_idle_whole_pass_changes_nothing.ensures.idle
