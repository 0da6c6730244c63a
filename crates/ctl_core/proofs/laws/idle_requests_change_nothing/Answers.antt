use Rattle.ctl_core.proofs.Changed.{confs-stay, pass-stays, jobs-stay, nodes-stay, partition-stays, step-changes, step-idle}
use Rattle.ctl_core.proofs.laws.idle_requests_change_nothing.Goals as goal

pub returns-clause-idle : goal.returns-clause-idle
returns-clause-idle c = step-idle (record {
  jobs = c.where_no_job_changes_nothing_does.ensures.idle;
  nodes = c.an_idle_order_changes_nothing.ensures.idle;
  passes = c.an_idle_whole_pass_changes_nothing.ensures.idle;
  confs = c.an_idle_reconfiguration_changes_nothing.ensures.idle;
})

pub returns-clause-pass : goal.returns-clause-pass
returns-clause-pass c = pass-stays c.an_idle_whole_pass_changes_nothing.ensures.only

pub returns-clause-jobs : goal.returns-clause-jobs
returns-clause-jobs c = jobs-stay c.where_no_job_changes_nothing_does.ensures.only

pub returns-clause-nodes : goal.returns-clause-nodes
returns-clause-nodes c = nodes-stay c.an_idle_order_changes_nothing.ensures.only

pub returns-clause-conf : goal.returns-clause-conf
returns-clause-conf c = confs-stay c.an_idle_reconfiguration_changes_nothing.ensures.only

pub returns-clause-partition : goal.returns-clause-partition
returns-clause-partition c = partition-stays

pub returns-clause-made : goal.returns-clause-made
returns-clause-made c s after now user request reply = step-changes (record {
  submissions = c.a_submission_changes_the_state.ensures;
  jobs = c.where_no_job_changes_nothing_does.ensures.only;
  nodes = c.an_idle_order_changes_nothing.ensures.only;
  creations = c.making_and_taking_reservations_changes_the_state.ensures.creations;
  deletions = c.making_and_taking_reservations_changes_the_state.ensures.deletions;
  passes = c.an_idle_whole_pass_changes_nothing.ensures.only;
  confs = c.an_idle_reconfiguration_changes_nothing.ensures.only;
}) s now user request
