-- What is known of all jobs is so of each.
use Rattle.ctl_waiting.proofs.ranking.candidates_of.Goals as goal

pub is_candidate-requires-clause-behind : goal.is_candidate-requires-clause-behind
is_candidate-requires-clause-behind c =
    let same = c.records-job-items.ensures.value in
    rw (rw same at c.job-item.is)
    (c.in_ok-behind.ensures c.loop-job.job-index c.job-item.result (rw same at c.loop-job-test.true))
