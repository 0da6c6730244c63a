use Rattle.std.proofs.Common.{get_or, refl, sym, ◌∙◌, append-nil}
use Rattle.std.specs.Prelude.{slice_get, option_map}
use Rattle.std.proofs.lemmas.Option.{slice_get_read, slice_get_past}
use Rattle.std.proofs.lemmas.Bool.{ltb-true, ltb-false}
use Rattle.std.proofs.lemmas.List.{get_or_default}
use Rattle.backfill_planner.specs.declared.Share.{Share}
use Rattle.node_state.specs.declared.record.NodeRecord.{NodeRecord}
use Rattle.ctl_pass.proofs.Lists.{filter_map-next}
use Rattle.ctl_pass.proofs.starts.names_at.Goals as goal
use Rattle.ctl_pass.proofs.starts.names_at.Goals.{in-Some+in_ok-copy+in_ok-push, in_default}

pub loop-share-preserved : goal.loop-share-preserved
loop-share-preserved c =
    let nodes = c.args.nodes.now in
    let shares = c.args.shares.now in
    let i = c.loop-share.share-index in
    let nothing : Share = record { node = 0; tasks = 0; cpus = 0; mem = 0 } in
    let share = get_or shares i nothing in
    let next = filter_map-next (λ (one : Share). option_map (λ (node : NodeRecord). node.conf.name)
    (slice_get nodes one.node)) shares i share c.loop-share-test.true
    (get_or_default shares i nothing share c.loop-share-test.true) in
    elim c.match-get.branch [
      | in-Some+in_ok-copy+in_ok-push w ↦
          let there = slice_get_read nodes _ share.node w.in-Some.node.now refl
          (ltb-true _ _ (sym w.in-Some.ensures.lookup.0)) w.in-Some.ensures.lookup.1 in
          rw (w.names-is, w.in_ok-push.ensures.items, c.loop-share.invariant, w.in_ok-copy.ensures)
          (sym (rw there at next))
      | in_default w ↦
          let nowhere = slice_get_past nodes share.node (ltb-false _ _ (sym w.in_default.ensures.lookup.0)) in
          rw (w.names-is, c.loop-share.invariant) (sym (rw nowhere at next ∙ append-nil _))
    ]
