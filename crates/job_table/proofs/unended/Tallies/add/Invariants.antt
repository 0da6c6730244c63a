-- The jobs so far are counted.
use Rattle.std.proofs.Common.{◌++◌, List, take}
use Rattle.job_table.specs.declared.record.JobRecord.{JobRecord}
use Rattle.job_table.specs.Tallies.{IsTallied}
use Rattle.job_table.proofs.unended.Tallies.add.Given as goal

abbrev pub invariant-loop-job : goal.invariant-loop-job
invariant-loop-job l = (old : List JobRecord)
    → IsTallied l.fn.self old → IsTallied l.self (old ++ take l.job-index l.jobs)
