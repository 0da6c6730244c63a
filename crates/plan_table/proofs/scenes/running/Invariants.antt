use Rattle.std.proofs.Common.{◌≡◌}
use Rattle.plan_table.proofs.scenes.running.Given as goal

-- the rooms stay
abbrev pub invariant-loop : goal.invariant-loop
invariant-loop l = l.profile.rooms ≡ l.rooms
