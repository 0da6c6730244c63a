use Rattle.std.proofs.Common.{◌≡◌, length, take}
use Rattle.plan_keeper.proofs.same_plan.are_same_holds.Given as goal

-- the first holds are the same
abbrev pub invariant-loop-place : goal.invariant-loop-place
invariant-loop-place l = record {
  long : length l.one ≡ length l.other;
  same : take l.place l.one ≡ take l.place l.other;
}
