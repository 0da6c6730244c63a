use Rattle.std.proofs.Common.{ℕ, eqb}
use Rattle.std.specs.HashMap.{get}
use Rattle.plan_keeper.specs.Marks.{FindsId}
use Rattle.plan_keeper.proofs.old_list.places_of.Given as goal

-- the first jobs are found by their ids
abbrev pub invariant-loop-place : goal.invariant-loop-place
invariant-loop-place l = (id : ℕ) → FindsId l.ranked l.place id (get eqb l.places id)
