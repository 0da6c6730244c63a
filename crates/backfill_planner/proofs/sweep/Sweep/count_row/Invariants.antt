use Rattle.std.proofs.Common.{◌≡◌, ℕ, ◌+◌, ◌*◌, ◌≤◌, ◌<◌, min, length, slice_index}
use Rattle.backfill_planner.specs.Sweeps.{IsHalfway}
use Rattle.backfill_planner.proofs.sweep.Sweep.count_row.Given as goal

-- on the way as far as the nodes so far, of the row the least until when they hold
abbrev pub invariant-loop-i : goal.invariant-loop-i
invariant-loop-i l = record {
  end : l.i-end ≡ min (length l.nodes) (l.first + 8);
  low : l.row * 8 ≤ l.i;
  high : l.i ≤ l.row * 8 + 8;
  half : IsHalfway l.rooms l.profile.holds l.job l.self l.second l.i;
  count : length l.self.leasts.items ≡ length l.fn.self.leasts.items;
  was : l.self.second ≡ l.fn.self.second;
  before : (i : ℕ) → i < l.row * 8 → slice_index l.self.untils.items i ≡ slice_index l.fn.self.untils.items i;
  later : l.second < l.least;
  least : (i : ℕ) → l.row * 8 ≤ i → i < l.i → l.least ≤ slice_index l.self.untils.items i;
}
