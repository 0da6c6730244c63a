use Rattle.std.proofs.Common.{◌≡◌, ◌<◌, ℕ, length}
use Rattle.std.specs.Prelude.{slice_get}
use Rattle.ctl_state.specs.State.{state_of}
use Rattle.ctl_show.specs.Standing.{group_at}
use Rattle.ctl_show.proofs.standing.groups_of.Given as goal

abbrev pub invariant-loop-place : goal.invariant-loop-place
invariant-loop-place l = record {
  len : length l.groups.items ≡ l.place;
  each : (k : ℕ) → k < l.place → slice_get l.groups.items k ≡ group_at (state_of l.cluster) k;
}
