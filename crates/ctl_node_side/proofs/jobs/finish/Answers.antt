use Rattle.std.proofs.Common.{length}
use Rattle.ctl_node_side.proofs.Dropped.{over_on, over_shown}
use Rattle.ctl_node_side.proofs.jobs.finish.Goals as goal

pub leave_node-requires-clause-on : goal.leave_node-requires-clause-on
leave_node-requires-clause-on c = rw c.end_script.ensures.jobs
    (over_on (length c.args.nodes.now.records) c.args.now c.args.node c.args.place c.args.done c.args.jobs.now.records
    c.requires.on)

pub leave_node-requires-clause-shown : goal.leave_node-requires-clause-shown
leave_node-requires-clause-shown c = rw c.end_script.ensures.jobs
    (over_shown c.args.nodes.now.held c.args.now c.args.node c.args.place c.args.done c.args.jobs.now.records
    c.requires.shown)

pub returns-clause-charges : goal.returns-clause-charges
returns-clause-charges c =
    c.who_leaves_is_charged.ensures.on c.args.now _ _ _ c.end_script.ensures.charges c.leave_node.ensures.charges
