use Rattle.std.proofs.Common.{◌≡◌, ◌≤◌, ◌+◌, ◌*◌, reverse}
use Rattle.backfill_planner.specs.Walking.{IsWalked}
use Rattle.backfill_planner.proofs.walk.needed.Given as goal

-- the places from `first` on are settled
abbrev pub invariant-loop-first : goal.invariant-loop-first
invariant-loop-first l = record {
  walked : IsWalked l.base.rooms l.base.holds l.going l.job l.now l.first (reverse l.gone.items) l.profile.holds;
  rooms : l.profile.rooms ≡ l.base.rooms;
  some : 1 ≤ l.most;
  few : l.most ≤ 16;
}

abbrev pub decreases-loop-first : goal.decreases-loop-first
decreases-loop-first l = 32 * l.first + l.most
