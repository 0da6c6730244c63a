use Rattle.std.proofs.Common.{ℕ, ◌∙◌, Some, None, get_or, sym, refl, [], length, append-nil}
use Rattle.std.specs.Prelude.{slice_get, option_map}
use Rattle.std.proofs.lemmas.Option.{slice_get_read, slice_get_past}
use Rattle.std.proofs.lemmas.Bool.{ltb-true, ltb-false}
use Rattle.node_state.specs.declared.record.NodeRecord.{NodeRecord}
use Rattle.ctl_show.specs.Records.{names_at}
use Rattle.ctl_show.proofs.shown_partitions.names_at.Goals as goal
use Rattle.ctl_show.proofs.shown_partitions.names_at.Goals.{in-Some+in_ok-copy+in_ok-push, in_default}
use Rattle.list_lemmas.proofs.Maps.{filter_map-more}

pub loop-place-init : goal.loop-place-init
unfolding names_at
loop-place-init c = c.in_ok-names.ensures.items

pub loop-place-preserved : goal.loop-place-preserved
unfolding names_at
loop-place-preserved c =
    let nodes = c.args.nodes.now in
    let place = get_or c.args.places.now c.loop-place.place-index 0 in
    let more = filter_map-more (λ (place : ℕ). option_map (λ (node : NodeRecord). node.conf.name) (slice_get nodes place))
    c.args.places.now c.loop-place.place-index 0 [] in
    elim c.match-get.branch [
      | in-Some+in_ok-copy+in_ok-push w ↦
          let there = slice_get_read nodes (length nodes) place w.in-Some.node.now refl
          (ltb-true _ _ (sym w.in-Some.ensures.lookup.0)) w.in-Some.ensures.lookup.1 in
          rw (w.names-is, w.in_ok-push.ensures.items, c.loop-place.invariant, w.in_ok-copy.ensures)
          (more (Some w.in-Some.node.now.conf.name) c.loop-place-test.true (rw there refl))
      | in_default w ↦
          let nowhere = slice_get_past nodes place (ltb-false _ _ (sym w.in_default.ensures.lookup.0)) in
          rw (w.names-is, c.loop-place.invariant)
          (sym (append-nil _) ∙ more None c.loop-place-test.true (rw nowhere refl))
    ]
