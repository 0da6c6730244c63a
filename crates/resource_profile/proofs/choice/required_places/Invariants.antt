use Rattle.std.proofs.Common.{◌≡◌, ◌-◌}
use Rattle.resource_profile.specs.Sets.{tasks_given}
use Rattle.resource_profile.specs.Beginnings.{IsRequiredBeginning}
use Rattle.resource_profile.proofs.choice.required_places.Given as goal

-- the places so far are those that each fitting set begins with
abbrev pub invariant-loop-place : goal.invariant-loop-place
invariant-loop-place l = record {
  begun : IsRequiredBeginning l.caps l.need l.place l.set.items;
  wanting : l.wanting ≡ l.need.tasks - tasks_given l.caps l.set.items;
}
