use Rattle.std.proofs.Common.{◌∙◌, Some, None, sym, refl, [], length, append-nil}
use Rattle.std.specs.Prelude.{slice_get, option_map}
use Rattle.std.proofs.lemmas.Option.{slice_get_read, slice_get_past}
use Rattle.std.proofs.lemmas.Bool.{ltb-true, ltb-false}
use Rattle.job_table.specs.declared.record.Part.{Part}
use Rattle.node_state.specs.declared.record.NodeRecord.{NodeRecord}
use Rattle.ctl_state.specs.Planning.{names_of}
use Rattle.ctl_state.proofs.planning.names_of.Goals as goal
use Rattle.ctl_state.proofs.planning.names_of.Goals.{in-Some+in_ok-copy+in_ok-push, in_default}
use Rattle.list_lemmas.proofs.Maps.{filter_map-more}

pub loop-part-init : goal.loop-part-init
unfolding names_of
loop-part-init c = c.in_ok-names.ensures.items

pub loop-part-preserved : goal.loop-part-preserved
unfolding names_of
loop-part-preserved c =
    let nodes = c.args.nodes.now in
    let part = c.part-item.result in
    let more = filter_map-more (λ (part : Part). option_map (λ (node : NodeRecord). node.conf.name) (slice_get nodes part.node)) c.args.parts.now c.loop-part.part-index part [] in
    elim c.match-get.branch [
      | in-Some+in_ok-copy+in_ok-push w ↦
          let there = slice_get_read nodes (length nodes) part.node w.in-Some.node.now refl (ltb-true _ _ (sym w.in-Some.ensures.lookup.0)) w.in-Some.ensures.lookup.1 in
          rw (w.names-is, w.in_ok-push.ensures.items, c.loop-part.invariant, w.in_ok-copy.ensures)
          (more (Some w.in-Some.node.now.conf.name) c.loop-part-test.true (rw (← c.part-item.is, there) refl))
      | in_default w ↦
          let nowhere = slice_get_past nodes part.node (ltb-false _ _ (sym w.in_default.ensures.lookup.0)) in
          rw (w.names-is, c.loop-part.invariant) (sym (append-nil _) ∙ more None c.loop-part-test.true (rw (← c.part-item.is, nowhere) refl))
    ]
