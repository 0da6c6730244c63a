use Rattle.std.proofs.Common.{arith}
use Rattle.std.proofs.lemmas.List.Sums.{sum_by-append}
use Rattle.backfill_planner.proofs.fitting.give_back.Goals as goal

pub drop_holds-requires : goal.drop_holds-requires
drop_holds-requires c = record {
  others = c.args.profile.now.holds;
  sums = λ amount. rw c.in_ok-add_holds.ensures.holds (omega (arith, sum_by-append amount c.args.profile.now.holds c.args.holds.now));
}
