use Rattle.std.proofs.Common.{◌≡◌, ℕ, ◌*◌, ◌<◌, ◌≤◌, length, slice_index}
use Rattle.backfill_planner.specs.Sweeps.{IsHalfway}
use Rattle.backfill_planner.proofs.sweep.Sweep.count_anew.Given as goal

-- on the way as far as the rows so far, and the least until when these hold
abbrev pub invariant-loop-row : goal.invariant-loop-row
invariant-loop-row l = record {
  half : IsHalfway l.rooms l.profile.holds l.job l.self l.second (l.row * 8);
  count : length l.self.leasts.items ≡ length l.fn.self.leasts.items;
  was : l.self.second ≡ l.fn.self.second;
  later : l.second < l.least;
  least : (i : ℕ) → i < l.row * 8 → i < length l.job.nodes → l.least ≤ slice_index l.self.untils.items i;
}
