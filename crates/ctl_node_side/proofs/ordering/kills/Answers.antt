use Rattle.std.proofs.Common.{◌≡◌, ◌∙◌, List, map, not, ap}
use Rattle.std.specs.List.{list_any, filter}
use Rattle.request_data.specs.declared.report.Start.{Start}
use Rattle.ctl_node_side.specs.Ordering.{in_order, is_same, shown, start_of, stays}
use Rattle.ctl_node_side.proofs.Reported.{lost_starts}
use Rattle.ctl_node_side.proofs.ordering.kills.Goals as goal

pub returns : goal.returns
returns c = λ now.
    let lost = λ (starts kept : List Start). filter (λ start. not (list_any (λ other. is_same other start) kept))
    starts in
    let kept : c.as_slice-2.result.now ≡ map start_of (filter (stays c.args.node c.args.report.now) (shown c.args.jobs.now))
    = cc c.in_ok-kept.ensures in
    c.in_order.ensures
    ∙ ap in_order (c.in_ok-lost.ensures ∙ ap (λ starts. lost starts c.as_slice-2.result.now) c.as_slice.ensures
    ∙ ap (lost c.args.report.now.running) kept
    ∙ lost_starts now c.args.node c.args.report.now (shown c.args.jobs.now) c.args.report.now.running)
