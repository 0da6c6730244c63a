use Rattle.user_laws.specs.Asked.{StartsHaveWhatWasAsked}
use Rattle.user_laws.proofs.Along.{along_history}
use Rattle.user_laws.proofs.Begun.{started_asked}
use Rattle.user_laws.proofs.starts.a_start_has_what_was_asked.Goals as goal

pub returns-clause-step : goal.returns-clause-step
returns-clause-step c = started_asked (record {
  whole = record {
    passes = record {
      plans = record {
        apart = c.placements_are_of_ranked_jobs.ensures.apart;
        candidates = c.planned_jobs_are_candidates.ensures;
        order = c.a_stable_sort_makes_the_order.ensures.apart;
      };
      silence = c.silence_keeps_all_sound.ensures;
      planned = c.what_a_pass_plans_is_sound.ensures;
    };
    all = c.starts_of_passes_get_all_they_planned.ensures;
    sound = c.a_whole_pass_keeps_all_sound.ensures;
  };
  placed = c.placements_are_first.ensures.some;
  nodes = c.jobs_get_nodes_that_are_there.ensures.nodes;
  twice = c.reservations_stay_apart.ensures.lasting;
  planned = c.a_job_started_by_a_pass_was_planned.ensures;
})

pub returns-clause-history : goal.returns-clause-history
returns-clause-history c = along_history StartsHaveWhatWasAsked (started_asked (record {
  whole = record {
    passes = record {
      plans = record {
        apart = c.placements_are_of_ranked_jobs.ensures.apart;
        candidates = c.planned_jobs_are_candidates.ensures;
        order = c.a_stable_sort_makes_the_order.ensures.apart;
      };
      silence = c.silence_keeps_all_sound.ensures;
      planned = c.what_a_pass_plans_is_sound.ensures;
    };
    all = c.starts_of_passes_get_all_they_planned.ensures;
    sound = c.a_whole_pass_keeps_all_sound.ensures;
  };
  placed = c.placements_are_first.ensures.some;
  nodes = c.jobs_get_nodes_that_are_there.ensures.nodes;
  twice = c.reservations_stay_apart.ensures.lasting;
  planned = c.a_job_started_by_a_pass_was_planned.ensures;
}))
