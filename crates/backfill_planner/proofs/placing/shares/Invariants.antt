use Rattle.std.proofs.Common.{◌≡◌, ◌≤◌, length, map, take, vec_len, vec_capacity}
use Rattle.backfill_planner.specs.Plans.{share_of}
use Rattle.backfill_planner.proofs.placing.shares.Given as goal

-- the parts so far, and room for the others
abbrev pub invariant-loop-part : goal.invariant-loop-part
invariant-loop-part l = record {
  so_far : l.shares.items ≡ map (λ part. share_of l.rooms l.job part) (take l.part-index l.dealt);
  count : vec_len l.shares ≡ l.part-index;
  room : length l.dealt ≤ vec_capacity l.shares;
}
