use Rattle.std.proofs.Common.{◌∙◌, length, ap, arith}
use Rattle.plain_data.specs.Rows.{has_id}
use Rattle.job_table.specs.declared.record.JobRecord.{JobRecord}
use Rattle.job_table.specs.Walks.{map_at}
use Rattle.ctl_nodes.specs.Failing.{HoldsParts, after_loss}
use Rattle.ctl_nodes.proofs.Walked.{unwalked_at}
use Rattle.ctl_nodes.proofs.failing.fail_jobs.Goals as goal

pub fail_job-requires-clause-holds : goal.fail_job-requires-clause-holds
fail_job-requires-clause-holds c =
    let held = c.loop-place.invariant in
    rw (held.nodes, held.walk)
    (unwalked_at c.a_walk_changes_all.ensures.rest (HoldsParts (length c.args.nodes.now.records))
    (after_loss c.args.now (has_id c.args.lost.now)) c.loop-place.place c.args.jobs.now.records (omega arith)
    (λ d. c.requires.holds c.loop-place.place d (omega arith)))

pub loop-place-preserved : goal.loop-place-preserved
loop-place-preserved c =
    let held = c.loop-place.invariant in
    let step = c.fail_job.ensures in
    let change : JobRecord → JobRecord = after_loss c.args.now (has_id c.args.lost.now) in
    record {
      walk = step.jobs ∙ ap (map_at c.loop-place.place change) held.walk
          ∙ c.a_walk_changes_all.ensures.goes_on change c.loop-place.place c.args.jobs.now.records (omega arith);
      charges = c.who_leaves_is_charged.ensures.on c.args.now _ _ _ held.charges step.charges;
      end = held.end;
      nodes = step.nodes ∙ held.nodes;
      shown = step.shown;
    }
