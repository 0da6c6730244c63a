use Rattle.std.proofs.Common.{◌≡◌, length, take}
use Rattle.plan_keeper.proofs.same_placed.are_same_shares.Given as goal

-- the first parts are the same
abbrev pub invariant-loop-place : goal.invariant-loop-place
invariant-loop-place l = record {
  long : length l.one ≡ length l.other;
  same : take l.place l.one ≡ take l.place l.other;
}
