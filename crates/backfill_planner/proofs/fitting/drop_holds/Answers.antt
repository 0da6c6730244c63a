use Rattle.std.proofs.Common.{◌∷◌, get_or, arith, ◌∙◌}
use Rattle.std.proofs.lemmas.List.Sums.{sum_by_more, sum_by-cons}
use Rattle.std.proofs.lemmas.List.Sorted.{sum_by-IsPermutation}
use Rattle.resource_profile.specs.declared.Hold.{Hold}
use Rattle.backfill_planner.proofs.Dropping.{still-there}
use Rattle.backfill_planner.proofs.fitting.drop_holds.Goals as goal

pub drop_hold-requires : goal.drop_hold-requires
drop_hold-requires c =
    let none : Hold = record { node = 0; from = 0; until = 0; cpus = 0; mem = 0 } in
    still-there c.args.holds.now c.args.profile.now.holds c.loop-hold.profile.holds c.loop-hold.hold-index none c.requires c.loop-hold-test.true c.loop-hold.invariant.sums

pub loop-hold-preserved : goal.loop-hold-preserved
loop-hold-preserved c =
    let none : Hold = record { node = 0; from = 0; until = 0; cpus = 0; mem = 0 } in
    let holds = c.args.holds.now in
    let i = c.loop-hold.hold-index in
    let hold = get_or holds i none in
    record {
      rooms = c.drop_hold.ensures.rooms ∙ c.loop-hold.invariant.rooms;
      sums = λ amount. omega (
        arith,
        c.loop-hold.invariant.sums amount,
        sum_by_more amount holds i none c.loop-hold-test.true,
        sum_by-IsPermutation amount c.loop-hold.profile.holds (hold ∷ c.drop_hold.new.self.holds) c.drop_hold.ensures.holds,
        sum_by-cons amount hold c.drop_hold.new.self.holds,
      );
    }
