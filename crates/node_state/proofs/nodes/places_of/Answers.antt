use Rattle.node_state.proofs.Places.{places-more}
use Rattle.node_state.proofs.nodes.places_of.Goals as goal

pub loop-place-preserved : goal.loop-place-preserved
loop-place-preserved c = λ name.
    places-more name c.in_ok-copy.field-0 c.args.records.now c.loop-place.place c.index-records-place.result _ _ c.requires c.loop-place-test.true c.index-records-place.is c.in_ok-copy.ensures
    (c.loop-place.invariant name) (c.in_ok-insert.ensures.updates.0 name)
