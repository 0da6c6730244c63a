use Rattle.std.proofs.Common.{◌≡◌, ℕ, eqb, take}
use Rattle.std.specs.HashSet.{contains}
use Rattle.std.specs.List.{list_any}
use Rattle.backfill_planner.specs.declared.Placed.{Placed}
use Rattle.ctl_pass.specs.Awaiting.{placements_of}
use Rattle.ctl_pass.proofs.victims.started_ids.Given as goal

-- the numbers of those so far
abbrev pub invariant-loop-start : goal.invariant-loop-start
invariant-loop-start l = (id : ℕ)
    → contains eqb l.ids id ≡ list_any (λ (placed : Placed). eqb placed.id id) (placements_of (take l.start-index l.starts))
