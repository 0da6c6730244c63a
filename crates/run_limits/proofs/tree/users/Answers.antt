use Rattle.std.proofs.Common.{sym, ◌∙◌}
use Rattle.std.proofs.lemmas.List.{append-nil}
use Rattle.run_limits.proofs.Users.{users_more}
use Rattle.run_limits.proofs.tree.users.Goals as goal
use Rattle.run_limits.proofs.tree.users.Goals.{then-node+in_ok-push, else-node}

pub loop-place-preserved : goal.loop-place-preserved
loop-place-preserved c =
    let more = users_more c.args.nodes.now c.loop-place.place c.loop-place-test.true in
    elim c.if-node.branch [
      | then-node+in_ok-push w ↦
          let added = rw w.if-node.true at more in
          rw (w.users-is, w.in_ok-push.ensures.items, c.loop-place.invariant) (sym added)
      | else-node w ↦
          let same = rw w.if-node.false at more in
          rw (w.users-is, c.loop-place.invariant) (sym (same ∙ append-nil _))
    ]
