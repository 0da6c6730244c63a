-- Which node reports, and why its report may be refused.
use Rattle.std.specs.Prelude.{ℕ, Bool, false, not, nat_lt, is_none, unwrap_or, List, [], ◌∷◌, Option, Some, None, option_map, option_and_then}
use Rattle.request_data.specs.declared.report.Report.{Report}
use Rattle.reply_data.specs.declared.refusal.Refusal.{Refusal}
use Rattle.reply_data.specs.declared.refusal.Refusal.TheVariants.{AccessDenied, UnknownNode, StaleReport}
use Rattle.request_data.specs.declared.report.Heard.{Heard}
use Rattle.ctl_state.specs.State.{State}
use Rattle.ctl_state.specs.Refusals.{refused_if, is_privileged}
use Rattle.node_state.specs.Nodes.{place_named}
use Rattle.ctl_node_side.specs.Reporting.{heard_of, is_after}

-- the place of the node that reports
abbrev pub node_of : State → Report → Option ℕ
node_of s report = place_named report.node s.nodes

-- its last accepted report
abbrev pub last_heard : State → Report → Option Heard
last_heard s report = option_and_then (heard_of s.nodes) (node_of s report)

-- the daemon was restarted since its last accepted report
abbrev pub is_restarted : State → Report → Bool
is_restarted s report =
    unwrap_or (option_map (λ (heard : Heard). nat_lt heard.boot report.boot) (last_heard s report)) false

-- a report must come after the last accepted one of its node
abbrev pub staleness : Report → Option Heard → Option Refusal
staleness report None = None
staleness report (Some heard) = refused_if (not (is_after heard report)) (StaleReport heard.boot heard.number)

-- why a report may be refused, in their order
abbrev pub report_refusals : State → List ℕ → Report → List (Option Refusal)
report_refusals s user report =
    refused_if (not (is_privileged s user)) AccessDenied
    ∷ refused_if (is_none (node_of s report)) UnknownNode
    ∷ staleness report (last_heard s report)
    ∷ []
