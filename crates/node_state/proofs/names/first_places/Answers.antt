use Rattle.std.proofs.Common.{◌∙◌, sym}
use Rattle.node_state.proofs.FirstPlaces.{first-kept, first-more, listed-at, unlisted}
use Rattle.node_state.proofs.names.first_places.Goals as goal
use Rattle.node_state.proofs.names.first_places.Goals.{then-not-contains_key+in_ok-copy+in_ok-insert, else-not-contains_key}

pub loop-place-preserved : goal.loop-place-preserved
loop-place-preserved c = λ name.
    let names = c.args.names.now in
    let place = c.loop-place.place in
    let key = c.index-names-place.result in
    let inside = c.loop-place-test.true in
    let is = c.index-names-place.is in
    elim c.if-not-contains_key.branch [
      | then-not-contains_key+in_ok-copy+in_ok-insert w ↦
          rw w.places-is
          (first-more name key names place inside is _ _
          (unlisted _ _ (c.loop-place.invariant key) (sym c.contains_key.ensures ∙ w.if-not-contains_key.true))
          (c.loop-place.invariant name) (rw w.in_ok-copy.ensures at (w.in_ok-insert.ensures.updates.0 name)))
      | else-not-contains_key w ↦
          let (at, found) = listed-at _ _ (c.loop-place.invariant key) (sym c.contains_key.ensures ∙ w.if-not-contains_key.false) in
          rw w.places-is (first-kept name key names place inside is _ at found (c.loop-place.invariant name))
    ]
