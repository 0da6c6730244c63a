use Rattle.std.proofs.Common.{arith, get_or, refl}
use Rattle.sacct_book.specs.Running.{cpus_run_by}
use Rattle.sacct_book.proofs.Adding.{running-more}
use Rattle.sacct_book.proofs.running.add_running.Goals as goal

pub loop-job-init : goal.loop-job-init
unfolding cpus_run_by
loop-job-init c = record { len = refl; each = λ at inside. omega (arith, c.type_inv.held at 0 (omega (arith, inside, c.args.held.now.ok.0))) }

pub loop-job-preserved : goal.loop-job-preserved
loop-job-preserved c = record {
  len = omega (arith, c.count.ensures.len, c.loop-job.invariant.len);
  each = λ at inside.
      running-more at c.args.jobs.now c.loop-job.job-index c.job-item.result c.loop-job-test.true
      c.job-item.is (get_or c.args.held.now.items at 0) (get_or c.loop-job.held.items at 0)
      (get_or c.count.new.held.items at 0) c.cpus_running.result (c.loop-job.invariant.each at inside)
      c.cpus_running.ensures (c.count.ensures.each at (omega (arith, inside, c.loop-job.invariant.len)));
}
