use Rattle.std.proofs.Common.{◌≡◌, take}
use Rattle.ctl_saved.specs.Saving as spec
use Rattle.ctl_saved.proofs.jobs.named_parts.Given as goal

abbrev pub invariant-loop-part : goal.invariant-loop-part
invariant-loop-part l = l.named.items ≡ spec.named_parts l.nodes (take l.part-index l.parts)
