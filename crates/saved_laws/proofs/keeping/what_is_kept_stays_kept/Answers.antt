use Rattle.saved_laws.proofs.AllKept.{conf_taken, force_stays, gone_stays, opening_force, opening_kept, step_kept}
use Rattle.saved_laws.proofs.Histories.{history_kept, kept_in_order, script_kept}
use Rattle.saved_laws.proofs.keeping.what_is_kept_stays_kept.Goals as goal

pub returns-clause-opening : goal.returns-clause-opening
returns-clause-opening c = opening_kept

pub returns-clause-step : goal.returns-clause-step
returns-clause-step c = step_kept (record {
  plans = record {
    parts = c.parts_are_apart.ensures.parts;
    moves = c.a_stable_sort_makes_the_order.ensures.moves;
    nodes = c.jobs_get_nodes_that_are_there.ensures.nodes;
    silence = c.silence_keeps_all_sound.ensures;
    planned = c.what_a_pass_plans_is_sound.ensures;
  };
  renewals = record {
    needed = c.what_is_needed_stays.ensures;
    planned = c.a_plan_names_the_same_nodes.ensures;
  };
})

pub returns-clause-script : goal.returns-clause-script
returns-clause-script c = script_kept c.a_step_keeps_all_sound.ensures (record {
  plans = record {
    parts = c.parts_are_apart.ensures.parts;
    moves = c.a_stable_sort_makes_the_order.ensures.moves;
    nodes = c.jobs_get_nodes_that_are_there.ensures.nodes;
    silence = c.silence_keeps_all_sound.ensures;
    planned = c.what_a_pass_plans_is_sound.ensures;
  };
  renewals = record {
    needed = c.what_is_needed_stays.ensures;
    planned = c.a_plan_names_the_same_nodes.ensures;
  };
})

pub returns-clause-history : goal.returns-clause-history
returns-clause-history c = history_kept c.a_step_keeps_all_sound.ensures (record {
  plans = record {
    parts = c.parts_are_apart.ensures.parts;
    moves = c.a_stable_sort_makes_the_order.ensures.moves;
    nodes = c.jobs_get_nodes_that_are_there.ensures.nodes;
    silence = c.silence_keeps_all_sound.ensures;
    planned = c.what_a_pass_plans_is_sound.ensures;
  };
  renewals = record {
    needed = c.what_is_needed_stays.ensures;
    planned = c.a_plan_names_the_same_nodes.ensures;
  };
})

pub returns-clause-order : goal.returns-clause-order
returns-clause-order c = kept_in_order

pub returns-clause-first : goal.returns-clause-first
returns-clause-first c = opening_force

pub returns-clause-stays : goal.returns-clause-stays
returns-clause-stays c = force_stays

pub returns-clause-gone : goal.returns-clause-gone
returns-clause-gone c = gone_stays

pub returns-clause-taken : goal.returns-clause-taken
returns-clause-taken c = conf_taken
