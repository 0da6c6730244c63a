use Rattle.std.proofs.Common.{Some, None, sym, ◌∙◌}
use Rattle.std.proofs.lemmas.List.{append-nil}
use Rattle.node_state.proofs.Built.{places-more}
use Rattle.node_state.proofs.partitions.places_of.Goals.{in-Some+in_ok-push, in_default}
use Rattle.node_state.proofs.partitions.places_of.Goals as goal

pub loop-name-preserved : goal.loop-name-preserved
loop-name-preserved c = elim c.match-find.branch [
  | in-Some+in_ok-push w ↦ rw (w.places-is, w.in_ok-push.ensures.items)
      (places-more c.args.nodes.now.records c.args.names.now c.loop-name.name-index c.name-item.result (Some w.in-Some.place) c.loop-name.places.items c.loop-name-test.true c.name-item.is (sym w.in-Some.is ∙ c.find.ensures.value) c.loop-name.invariant)
  | in_default w ↦ rw w.places-is
      (sym (append-nil _) ∙ places-more c.args.nodes.now.records c.args.names.now c.loop-name.name-index c.name-item.result None c.loop-name.places.items c.loop-name-test.true c.name-item.is (sym w.in_default.is ∙ c.find.ensures.value) c.loop-name.invariant)
]
