-- What operators say of nodes, partitions and reservations, and what nodes report, whatever the sum of sizes.
use Rattle.std.proofs.Common.{ℕ, ◌≡◌, List, Option, Some, None, refl, ap, nat_eq, slice_get}
use Rattle.plain_data.specs.declared.conf.PartState.{PartState}
use Rattle.request_data.specs.declared.report.Report.{Report}
use Rattle.request_data.specs.declared.request.NodeOrder.{NodeOrder}
use Rattle.reply_data.specs.declared.reply.Reply.TheVariants.{Done, Orders}
use Rattle.ctl_state.specs.State.{State}
use Rattle.ctl_state.specs.Verdicts.{Makes, stamped}
use Rattle.ctl_nodes.specs.Failing.{lost_after}
use Rattle.ctl_nodes.specs.Updating.{changes_any, update_after, update_made}
use Rattle.ctl_node_side.specs.Answering.{is_restarted, node_of}
use Rattle.ctl_node_side.specs.Ordering.{orders_of}
use Rattle.ctl_node_side.specs.Reporting.{report_after}
use Rattle.ctl_node_side.specs.Restarting.{made_by_report, met, report_made}
use Rattle.plain_data.specs.Confs.{ConfView}
use Rattle.ctl_reconfigure.specs.Blocking.{blocking_node, blocking_partition}
use Rattle.ctl_reconfigure.specs.Reconfiguring.{reconfigure_made, reconfigured}
use Rattle.ctl_reconfigure.specs.Refusing.{reconfigure_refusals}
use Rattle.ctl_reconfigure.specs.Same.{is_same}
use Rattle.ctl_core.specs.Operating.{is_in_state, partition_after, partition_made}
use Rattle.saved_laws.specs.Rooms.{sized}
use Rattle.saved_laws.proofs.Resized.{chosen_sized, making_sized, sized_by, staying_sized}

pub update_made_sized : (size : ℕ) (s : State) (now : ℕ) (names : List (List ℕ)) (state : NodeOrder)
    → update_made (sized size s) now names state ≡ sized_by size (update_made s now names state)
update_made_sized size s now names state =
    making_sized size (changes_any s names state) Done (update_after s now names state)

pub partition_made_sized : (size : ℕ) (s : State) (state : PartState) (place : Option ℕ)
    → partition_made (sized size s) state place ≡ sized_by size (partition_made s state place)
partition_made_sized size s state None = refl
partition_made_sized size s state (Some place) =
    staying_sized size (is_in_state state (slice_get s.partitions place)) Done (partition_after s place state)

pub reconfigure_made_sized : (size : ℕ) (s : State) (moment : ℕ) (conf : ConfView)
    → reconfigure_made (sized size s) moment conf ≡ sized_by size (reconfigure_made s moment conf)
reconfigure_made_sized size s moment conf =
    staying_sized size (is_same s conf) Done (reconfigured s moment conf)

pub reconfigure_refusals_sized : (size : ℕ) (s : State) (user : List ℕ) (conf : ConfView)
    → reconfigure_refusals (sized size s) user conf ≡ reconfigure_refusals s user conf
unfolding blocking_node blocking_partition
reconfigure_refusals_sized size s user conf = refl

met_sized : (size : ℕ) (s : State) (now node : ℕ) (report : Report)
    → met (sized size s) now node report ≡ sized size (met s now node report)
met_sized size s now node report =
    chosen_sized size (is_restarted s report) (stamped now (lost_after s now (nat_eq node))) s

by-node : (size : ℕ) (s : State) (now : ℕ) (report : Report) (node : Option ℕ)
    → made_by_report (sized size s) now report node ≡ sized_by size (made_by_report s now report node)
by-node size s now report None = refl
by-node size s now report (Some node) =
    ap (λ (t : State). Makes (Orders (orders_of t.jobs now node report)) (report_after t now node report))
    (met_sized size s now node report)

pub report_made_sized : (size : ℕ) (s : State) (now : ℕ) (report : Report)
    → report_made (sized size s) now report ≡ sized_by size (report_made s now report)
report_made_sized size s now report = by-node size s now report (node_of s report)
