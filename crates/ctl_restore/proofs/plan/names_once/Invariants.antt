-- No two of the placements so far are of one job, and their numbers were seen.
use Rattle.std.proofs.Common.{◌≡◌, ℕ, take, AllPairs, nat_eq}
use Rattle.std.specs.Prelude.{◌≢◌}
use Rattle.std.specs.HashSet.{contains}
use Rattle.std.specs.List.{list_any}
use Rattle.backfill_planner.specs.declared.Placed.{Placed}
use Rattle.ctl_restore.proofs.plan.names_once.Given as goal

abbrev pub invariant-loop-placed : goal.invariant-loop-placed
invariant-loop-placed l = record {
  seen : (id : ℕ) → contains nat_eq l.seen id
      ≡ list_any (λ (placed : Placed). nat_eq placed.id id) (take l.placed-index l.plan);
  once : AllPairs (λ (one other : Placed). one.id ≢ other.id) (take l.placed-index l.plan);
}
