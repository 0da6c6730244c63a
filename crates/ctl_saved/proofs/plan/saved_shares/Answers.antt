use Rattle.std.proofs.Common.{◌∙◌, Some, None, sym, []}
use Rattle.std.proofs.lemmas.List.{append-nil}
use Rattle.ctl_saved.specs.Saving.{saved_share, saved_shares}
use Rattle.ctl_saved.proofs.plan.saved_shares.Goals as goal
use Rattle.ctl_saved.proofs.plan.saved_shares.Goals.{in-Some+in_ok-push, in_default}
use Rattle.list_lemmas.proofs.Maps.{filter_map-more}

pub loop-share-init : goal.loop-share-init
unfolding saved_shares
loop-share-init c = c.in_ok-saved.ensures.items

pub loop-share-preserved : goal.loop-share-preserved
unfolding saved_shares
loop-share-preserved c =
    let nodes = c.args.nodes.now in
    let gone = c.args.gone.now in
    let more = filter_map-more (saved_share nodes gone) c.args.shares.now c.loop-share.share-index _ [] in
    elim c.match-branch-3.branch [
      | in-Some+in_ok-push w ↦
          rw (w.saved-is, w.in_ok-push.ensures.items, c.loop-share.invariant)
          (more (Some w.in-Some.one) c.loop-share-test.true (sym w.in-Some.is ∙ c.in_ok-one.ensures))
      | in_default w ↦
          rw (w.saved-is, c.loop-share.invariant)
          (sym (append-nil _) ∙ more None c.loop-share-test.true (sym w.in_default.is ∙ c.in_ok-one.ensures))
    ]
