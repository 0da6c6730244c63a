use Rattle.std.proofs.Common.{◌≡◌, ◌≤◌, ◌∙◌, length, ap, sym, refl, arith}
use Rattle.std.proofs.lemmas.List.{drop_all}
use Rattle.std.proofs.lemmas.List.Elements.{All-nil}
use Rattle.node_state.specs.declared.record.NodeRecord.{NodeRecord}
use Rattle.node_state.specs.Nodes.{changed}
use Rattle.ctl_nodes.specs.Changing.{changed_where}
use Rattle.ctl_nodes.proofs.Named.{changed_there, others_there}
use Rattle.ctl_nodes.proofs.Walked.{length_map_at, node_at}
use Rattle.ctl_nodes.proofs.names.change_places.Goals as goal
use Rattle.ctl_nodes.proofs.names.change_places.Goals.{then-contains, else-contains}

pub set_state-requires : goal.set_state-requires
set_state-requires c = omega (arith, c.loop-place.invariant.long)

pub loop-place-preserved : goal.loop-place-preserved
loop-place-preserved c =
    let held = c.loop-place.invariant in
    let nodes = c.args.nodes.now.records in
    let walk = c.a_walk_changes_all.ensures in
    let place = c.loop-place.place in
    let before = c.loop-place.nodes.records in
    elim c.if-contains.branch [
      | then-contains w ↦ record {
        walk = λ test is. rw w.nodes-is
            (w.set_state.ensures.changed
            ∙ changed_there c.a_change_is_of_its_place.ensures.same walk.goes_on walk.rest c.args.change
            test place nodes before (held.walk test is) (omega arith)
            (sym (is place) ∙ sym c.contains.ensures ∙ w.if-contains.true));
        held = rw w.nodes-is (w.set_state.ensures.held ∙ held.held);
        long = rw w.nodes-is
            (ap length (w.set_state.ensures.changed ∙ node_at place c.args.change before)
            ∙ length_map_at (changed c.args.change) place before ∙ held.long);
        end = held.end;
      }
      | else-contains w ↦ record {
        walk = λ test is. rw w.nodes-is
            (others_there c.a_change_is_of_its_place.ensures.nothing walk.goes_on walk.rest c.args.change
            test place nodes before (held.walk test is) (omega arith)
            (sym (is place) ∙ sym c.contains.ensures ∙ w.if-contains.false));
        held = rw w.nodes-is held.held;
        long = rw w.nodes-is held.long;
        end = held.end;
      }
    ]

pub returns-clause-records : goal.returns-clause-records
returns-clause-records c = λ test is.
    let held = c.loop-place.invariant in
    let nodes = c.args.nodes.now.records in
    let change : NodeRecord → NodeRecord = changed_where c.args.change test in
    let past : length nodes ≤ c.loop-place.place = omega (arith, held.end) in
    held.walk test is
    ∙ c.a_walk_changes_all.ensures.ends change c.loop-place.place nodes
    (rw (drop_all c.loop-place.place nodes past) (All-nil (λ node. change node ≡ node)))
