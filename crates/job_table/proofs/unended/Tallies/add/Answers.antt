-- What isn't counted isn't known.
use Rattle.std.proofs.Common.{◌≡◌, ◌∙◌, ap, arith, sum_by, sym, true≢false}
use Rattle.job_table.specs.declared.unended.Tallies.{Tallies}
use Rattle.job_table.specs.Tallies.{counted}
use Rattle.job_table.proofs.Counts.{tallied-more}
use Rattle.job_table.proofs.unended.Tallies.add.Goals as goal
use Rattle.job_table.proofs.unended.Tallies.add.Goals.{in-Some, in-None}

pub loop-job-preserved : goal.loop-job-preserved
loop-job-preserved c = λ old tallied known test. elim c.match-count_job.branch [
  | in-Some w ↦
      tallied-more c.loop-job.self c.match-count_job.self old c.args.jobs.now c.loop-job.job-index c.job-item.result
      (omega arith) c.job-item.is (ap (λ (all : Tallies). all.known) w.self-is)
      (λ each. ap (λ (all : Tallies). sum_by (counted each) all.list.items) w.self-is
      ∙ (rw w.in-Some.is at c.count_job.ensures) each)
      (c.loop-job.invariant old tallied) known test
  | in-None w ↦ absurd (true≢false (sym known ∙ ap (λ (all : Tallies). all.known) w.self-is))
]
