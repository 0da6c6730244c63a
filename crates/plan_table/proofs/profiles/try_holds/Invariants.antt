use Rattle.std.proofs.Common.{◌≡◌}
use Rattle.plan_table.proofs.profiles.try_holds.Given as goal

-- the rooms stay
abbrev pub invariant-loop-text : goal.invariant-loop-text
invariant-loop-text l = l.profile.rooms ≡ l.rooms
