use Rattle.ctl_pass.proofs.KeepingOut.{plans-keep}
use Rattle.ctl_pass.proofs.laws.placements_keep_to_reservations.Goals as goal

pub returns : goal.returns
returns c = plans-keep (record {
  moves = c.a_stable_sort_makes_the_order.ensures.moves;
  first = c.placements_are_first.ensures.some;
  clear = c.placements_keep_out_of_barred_times.ensures;
  lasting_twice = c.reservations_stay_apart.ensures.lasting;
})
