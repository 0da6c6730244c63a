use Rattle.replay_texts.proofs.Added.{all_added, one_added}
use Rattle.replay_texts.proofs.adding.add_jobs.Goals as goal

pub loop-job-preserved : goal.loop-job-preserved
loop-job-preserved c =
    one_added c.args.jobs.now c.loop-job.job-index c.job-item.result _ _ _ _ _ _ _ c.loop-job-test.true c.job-item.is
    c.in_ok-add_job.ensures.lines c.in_ok-add_job.ensures.accounts c.in_ok-add_job.ensures.users c.loop-job.invariant

pub returns : goal.returns
returns c =
    all_added c.args.jobs.now c.loop-job.job-index _ _ _ _ _ _ c.loop-job-test.false c.loop-job.invariant
