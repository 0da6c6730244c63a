use Rattle.std.proofs.Common.{◌≡◌, length, take}
use Rattle.std.specs.Prelude.{◌^◌, ◌-◌, min, sum_by}
use Rattle.job_table.specs.declared.record.Part.{Part}
use Rattle.job_table.proofs.usage.cpus_in.Given as goal

abbrev pub invariant-loop-part : goal.invariant-loop-part
invariant-loop-part l =
    l.count ≡ min (sum_by (λ (part : Part). length part.cpus) (take l.part-index l.parts)) (2 ^ 64 - 1)
