use Rattle.std.proofs.Common.{◌∙◌, ◌+◌, ◌++◌, map, take, drop, true, false}
use Rattle.ctl_state.specs.Holding.{parts_of}
use Rattle.ctl_state.specs.Planning.{room_of}
use Rattle.ctl_restore.specs.Steps.{Holds}
use Rattle.ctl_restore.proofs.Held.{holds-more, holds-not, holds-same, parts-on, parts-split}
use Rattle.ctl_restore.proofs.holding.hold_jobs.Goals as goal

pub loop-job-preserved : goal.loop-job-preserved
loop-job-preserved c =
    let rooms = map room_of c.args.nodes.now.records in
    let before = c.args.nodes.now.held in
    let after = c.hold_parts.new.nodes.held in
    let jobs = c.args.jobs.now in
    let i = c.loop-job.job-index in
    let job = c.job-item.result in
    let one : Holds rooms c.loop-job.nodes.held after job.parts true =
    rw (c.loop-job.invariant.records, c.as_slice.ensures) at c.if-not-hold_parts.ensures.holds in
    record {
      holds = holds-same rooms before after (parts_of (take i jobs) ++ job.parts) (parts_of (take (i + 1) jobs)) true
          (parts-on jobs i job c.loop-job-test.true c.job-item.is)
          (holds-more rooms before c.loop-job.nodes.held after (parts_of (take i jobs)) job.parts true
          c.loop-job.invariant.holds one);
      records = c.hold_parts.ensures.records ∙ c.loop-job.invariant.records;
    }

pub returns-then-not-hold_parts-clause-holds : goal.returns-then-not-hold_parts-clause-holds
returns-then-not-hold_parts-clause-holds c =
    let rooms = map room_of c.args.nodes.now.records in
    let before = c.args.nodes.now.held in
    let after = c.hold_parts.new.nodes.held in
    let jobs = c.args.jobs.now in
    let i = c.loop-job.job-index in
    let job = c.job-item.result in
    let one : Holds rooms c.loop-job.nodes.held after job.parts false =
    rw (c.loop-job.invariant.records, c.as_slice.ensures) at c.if-not-hold_parts.ensures.holds in
    holds-same rooms before after ((parts_of (take i jobs) ++ job.parts) ++ parts_of (drop (i + 1) jobs)) (parts_of jobs)
    false (parts-split jobs i job c.loop-job-test.true c.job-item.is)
    (holds-not rooms before after (parts_of (take i jobs) ++ job.parts) (parts_of (drop (i + 1) jobs))
    (holds-more rooms before c.loop-job.nodes.held after (parts_of (take i jobs)) job.parts false
    c.loop-job.invariant.holds one))
