use Rattle.std.proofs.Common.{◌∙◌, Some, None, sym, []}
use Rattle.std.proofs.lemmas.List.{append-nil}
use Rattle.ctl_saved.specs.Saving.{named_part, named_parts}
use Rattle.ctl_saved.proofs.jobs.named_parts.Goals as goal
use Rattle.ctl_saved.proofs.jobs.named_parts.Goals.{in-Some+in_ok-push, in_default}
use Rattle.list_lemmas.proofs.Maps.{filter_map-more}

pub loop-part-init : goal.loop-part-init
unfolding named_parts
loop-part-init c = c.in_ok-named.ensures.items

pub loop-part-preserved : goal.loop-part-preserved
unfolding named_parts
loop-part-preserved c =
    let nodes = c.args.nodes.now in
    let more = filter_map-more (named_part nodes) c.args.parts.now c.loop-part.part-index c.part-item.result [] in
    elim c.match-branch-3.branch [
      | in-Some+in_ok-push w ↦
          rw (w.named-is, w.in_ok-push.ensures.items, c.loop-part.invariant)
          (more (Some w.in-Some.one) c.loop-part-test.true (sym w.in-Some.is ∙ rw (← c.part-item.is) c.in_ok-one.ensures))
      | in_default w ↦
          rw (w.named-is, c.loop-part.invariant)
          (sym (append-nil _) ∙ more None c.loop-part-test.true (sym w.in_default.is ∙ rw (← c.part-item.is) c.in_ok-one.ensures))
    ]
