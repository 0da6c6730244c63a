use Rattle.std.proofs.Common.{◌≡◌, vec_len, vec_capacity}
use Rattle.resource_profile.specs.Levels.{AreChanged, more}
use Rattle.resource_profile.proofs.levels.lift.Given as goal

-- the levels so far are lifted
abbrev pub invariant-loop-i : goal.invariant-loop-i
invariant-loop-i l = record {
  changed : AreChanged (more l.amount) l.first l.i l.fn.levels.items l.levels.items;
  len : vec_len l.levels ≡ vec_len l.fn.levels;
  capacity : vec_capacity l.levels ≡ vec_capacity l.fn.levels;
}
