-- What comes of a node's report, also where its daemon was restarted.
use Rattle.std.specs.Prelude.{ℕ, nat_eq, if◌then◌else◌, Option, Some, None}
use Rattle.request_data.specs.declared.report.Report.{Report}
use Rattle.reply_data.specs.declared.refusal.Refusal.TheVariants.{UnknownNode}
use Rattle.reply_data.specs.declared.reply.Reply.TheVariants.{Orders}
use Rattle.ctl_state.specs.State.{State}
use Rattle.ctl_state.specs.Verdicts.{Verdict, Refuses, Makes, stamped}
use Rattle.ctl_nodes.specs.Failing.{lost_after}
use Rattle.ctl_node_side.specs.Answering.{is_restarted, node_of}
use Rattle.ctl_node_side.specs.Ordering.{orders_of}
use Rattle.ctl_node_side.specs.Reporting.{report_after}

-- the state in which the report of the node at a place is worked: a daemon that was restarted runs nothing, so what its
-- node held is lost
abbrev pub met : State → ℕ → ℕ → Report → State
met s now node report = if is_restarted s report then stamped now (lost_after s now (nat_eq node)) else s

-- what an accepted report makes
abbrev pub made_by_report : State → ℕ → Report → Option ℕ → Verdict
made_by_report s now report None = Refuses UnknownNode
made_by_report s now report (Some node) =
    Makes
    (Orders (orders_of (met s now node report).jobs now node report))
    (report_after (met s now node report) now node report)

abbrev pub report_made : State → ℕ → Report → Verdict
report_made s now report = made_by_report s now report (node_of s report)
