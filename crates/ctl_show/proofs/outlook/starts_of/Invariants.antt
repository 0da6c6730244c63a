use Rattle.std.proofs.Common.{◌≡◌, ℕ, take}
use Rattle.std.specs.Prelude.{nat_eq}
use Rattle.std.specs.HashMap.{get}
use Rattle.ctl_show.specs.Showing
use Rattle.ctl_show.proofs.outlook.starts_of.Given as goal

abbrev pub invariant-loop-placed : goal.invariant-loop-placed
invariant-loop-placed l = (id : ℕ) → get nat_eq l.starts id ≡ Showing.planned_start (take l.placed-index l.plan) id
