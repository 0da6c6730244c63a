use Rattle.std.proofs.Common.{◌≡◌, drop}
use Rattle.std.specs.Prelude.{filter}
use Rattle.plan_keeper.specs.Steady.{is_ahead}
use Rattle.plan_keeper.proofs.same_times.next_ahead.Given as goal

-- none so far counts
abbrev pub invariant-loop-place : goal.invariant-loop-place
invariant-loop-place l = filter (is_ahead l.now l.nodes) (drop l.from l.times) ≡ filter (is_ahead l.now l.nodes) (drop l.place l.times)
