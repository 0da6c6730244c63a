use Rattle.std.proofs.Common.{append-nil, arith}
use Rattle.std.proofs.lemmas.Bool.Decides.{nat_tests}
use Rattle.job_table.specs.Awaiting.{has_gone}
use Rattle.ctl_pass.proofs.Readied.{going-known, left-more}
use Rattle.ctl_pass.proofs.base.holds_of.Goals as goal

pub loop-job-preserved : goal.loop-job-preserved
loop-job-preserved c =
    let test = has_gone c.args.age c.args.now c.args.awaited.now in
    let more = left-more c.args.now c.loop-job.job-index test c.args.jobs.now c.job-item.result
    (going-known c.args.age c.args.now c.args.awaited.now) c.loop-job-test.true c.job-item.is in
    grind (arith, nat_tests, more, append-nil c.loop-job.holds.items)
