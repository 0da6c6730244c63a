use Rattle.std.proofs.Common.{◌∙◌, ap}
use Rattle.ctl_state.specs.State.{state_of}
use Rattle.ctl_node_side.specs.Answering.{is_restarted}
use Rattle.ctl_node_side.specs.Ordering.{orders_of, shown}
use Rattle.ctl_node_side.proofs.Restarted.{orders_met}
use Rattle.ctl_node_side.proofs.Skipped.{ordered-met}
use Rattle.ctl_node_side.proofs.restarting.orders.Goals as goal

pub orders_by-requires : goal.orders_by-requires
orders_by-requires c = rw c.as_slice.ensures.value c.in_ok-jobs.ensures.rising

pub returns : goal.returns
returns c = λ now.
    let s = state_of c.args.cluster.now in
    let node = c.args.node in
    let report = c.args.report.now in
    c.in_ok-orders.ensures now
    ∙ ap (λ jobs. orders_of (shown jobs) now node report) c.as_slice.ensures.value
    ∙ ap (λ jobs. orders_of jobs now node report) c.in_ok-jobs.ensures.jobs
    ∙ ordered-met (is_restarted s report) s.jobs now node report
    ∙ orders_met c.a_node_without_jobs_is_ordered_alike.ensures c.lost_nodes_keep_all_sound.ensures.free s now node
    report c.requires.sound
