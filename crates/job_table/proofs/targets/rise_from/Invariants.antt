-- Indices rise so far.
use Rattle.std.proofs.Common.{take}
use Rattle.job_table.specs.Targets.{HaveRisingIndices}
use Rattle.job_table.proofs.targets.rise_from.Given as goal

abbrev pub invariant-loop-place : goal.invariant-loop-place
invariant-loop-place l = HaveRisingIndices (take l.start l.jobs) → HaveRisingIndices (take l.place l.jobs)
