use Rattle.std.proofs.Common.{subst}
use Rattle.ctl_state.specs.State.{State}
use Rattle.sacct_book.specs.Naming.{Tells, changed_by}
use Rattle.sacct_book.proofs.following.follow.Goals as goal

pub follow_changed-requires-clause-changed : goal.follow_changed-requires-clause-changed
follow_changed-requires-clause-changed c =
    subst (λ (s : State). Tells c.in_ok-changed.changed (changed_by s c.args.entry.now.request)) c.cluster.ensures.value
    c.in_ok-changed.ensures
