use Rattle.std.proofs.Common.{◌≡◌, take}
use Rattle.std.specs.List.{flat_map}
use Rattle.backfill_planner.proofs.walk.all_holds.Given as goal

-- the holds so far
abbrev pub invariant-loop-holds : goal.invariant-loop-holds
invariant-loop-holds l = l.all.items ≡ flat_map (λ holds. holds) (take l.holds-index l.going)
