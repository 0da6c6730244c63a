use Rattle.backfill_planner.proofs.victim_laws.pick_laws.Goals as goal

pub returns : goal.returns
returns c = record {
  some = λ caps need set is. (c.chosen_is_first.ensures.some caps need set is).fits;
  none = c.chosen_is_first.ensures.none;
}
