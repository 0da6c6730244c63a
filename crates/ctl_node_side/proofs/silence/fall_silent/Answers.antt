use Rattle.std.proofs.Common.{◌≡◌, ◌∙◌, ap, map, sym}
use Rattle.plain_data.specs.Rows.{has_id}
use Rattle.node_state.specs.declared.record.NodeChange.TheVariants.{Silent}
use Rattle.ctl_state.specs.Planning.{is_at}
use Rattle.ctl_state.specs.State.{State, state_of}
use Rattle.ctl_nodes.specs.Changing.{changed_where}
use Rattle.ctl_nodes.specs.Failing.{lost_after}
use Rattle.ctl_node_side.specs.Silence.{falls_silent, nodes_silenced, silent_at}
use Rattle.ctl_node_side.proofs.silence.fall_silent.Goals as goal

pub returns-clause-after : goal.returns-clause-after
returns-clause-after c =
    let s = state_of c.args.cluster.now in
    let now = c.args.now in
    let test = falls_silent s.settings.slurmd_timeout now in
    let same : state_of c.lose.new.cluster ≡ lost_after s now (silent_at s now) =
    c.lose.ensures.after
    ∙ c.the_same_nodes_are_lost_alike.ensures s now (has_id c.args.silent.now) (silent_at s now) c.requires.places in
    let were : c.lose.new.cluster.nodes.records ≡ s.nodes = ap (λ (t : State). t.nodes) same in
    let are : c.change_places.new.nodes.records ≡ nodes_silenced s now =
    c.change_places.ensures.records test
    (λ place. c.requires.places place ∙ ap (λ nodes. is_at test nodes place) (sym were))
    ∙ ap (map (changed_where Silent test)) were in
    rw are (ap (λ (t : State). record t { nodes = nodes_silenced s now; moment = now }) same)

pub returns-clause-indexed : goal.returns-clause-indexed
returns-clause-indexed c = rw c.change_places.ensures.held c.lose.ensures.indexed
