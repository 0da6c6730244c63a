use Rattle.std.proofs.Common.{◌≡◌, map, take}
use Rattle.ctl_restore.specs.Restored as spec
use Rattle.ctl_restore.proofs.jobs.restored_parts.Given as goal

abbrev pub invariant-loop-part : goal.invariant-loop-part
invariant-loop-part l = l.restored.items ≡ map (spec.restored_part l.nodes.records) (take l.part-index l.parts)
