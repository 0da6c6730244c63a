use Rattle.std.proofs.Common.{◌∙◌, ◌&&◌, ap, sym}
use Rattle.plain_data.specs.Rows.{has_id}
use Rattle.ctl_state.specs.Planning.{is_at}
use Rattle.ctl_state.specs.State.{state_of}
use Rattle.ctl_nodes.specs.Updating.{is_among, lost_by}
use Rattle.ctl_nodes.proofs.Kept.{lost_alike, lost_by_none}
use Rattle.ctl_nodes.proofs.updating.lose_named.Goals as goal

pub returns-then-is_lost_by-clause-after : goal.returns-then-is_lost_by-clause-after
returns-then-is_lost_by-clause-after c =
    let nodes = c.args.cluster.now.nodes.records in
    let names = c.args.names.now in
    c.lose.ensures.after
    ∙ lost_alike (state_of c.args.cluster.now) c.args.moment (has_id c.places_of-lost.result)
    (lost_by nodes names c.args.state)
    (λ place. c.places_of-lost.ensures place
    ∙ ap (λ b. b && is_at (is_among names) nodes place) (sym (sym c.is_lost_by.ensures ∙ c.if-is_lost_by.true)))

pub returns-else-is_lost_by-clause-after : goal.returns-else-is_lost_by-clause-after
returns-else-is_lost_by-clause-after c =
    sym (lost_by_none c.who_leaves_is_charged.ensures.nothing (state_of c.args.cluster.now) c.args.moment
    c.args.names.now c.args.state (sym c.is_lost_by.ensures ∙ c.if-is_lost_by.false))
