use Rattle.daemon_world.proofs.Rising.{event_rises}
use Rattle.daemon_world.proofs.Whole.{event_together}
use Rattle.daemon_world.proofs.laws.every_event_keeps_all_together.Goals as goal

pub returns-clause-together : goal.returns-clause-together
returns-clause-together c = event_together (record {
  lower = record {
    places = c.a_change_leaves_the_confs.ensures.places;
    named = c.names_lead_to_places.ensures.named;
    lost = c.lost_nodes_keep_all_sound.ensures.sound;
    free = c.lost_nodes_keep_all_sound.ensures.free;
    alone = c.a_node_without_jobs_is_ordered_alike.ensures;
    met = c.a_report_met_keeps_all_sound.ensures;
  };
  passes = record {
    plans = record {
      apart = c.placements_are_of_ranked_jobs.ensures.apart;
      candidates = c.planned_jobs_are_candidates.ensures;
      order = c.a_stable_sort_makes_the_order.ensures.apart;
    };
    silence = c.silence_keeps_all_sound.ensures;
    planned = c.what_a_pass_plans_is_sound.ensures;
  };
  steps = c.a_step_keeps_all_sound.ensures;
})

pub returns-clause-rises : goal.returns-clause-rises
returns-clause-rises c = event_rises (record {
  lower = record {
    places = c.a_change_leaves_the_confs.ensures.places;
    named = c.names_lead_to_places.ensures.named;
    lost = c.lost_nodes_keep_all_sound.ensures.sound;
    free = c.lost_nodes_keep_all_sound.ensures.free;
    alone = c.a_node_without_jobs_is_ordered_alike.ensures;
    met = c.a_report_met_keeps_all_sound.ensures;
  };
  passes = record {
    plans = record {
      apart = c.placements_are_of_ranked_jobs.ensures.apart;
      candidates = c.planned_jobs_are_candidates.ensures;
      order = c.a_stable_sort_makes_the_order.ensures.apart;
    };
    silence = c.silence_keeps_all_sound.ensures;
    planned = c.what_a_pass_plans_is_sound.ensures;
  };
  steps = c.a_step_keeps_all_sound.ensures;
})
