use Rattle.std.proofs.Common.{◌≡◌}
use Rattle.ctl_state.specs.State.{state_of}
use Rattle.saved_data.specs.Order.{IsInOrder}
use Rattle.ctl_saved.specs.Saving.{StandsInOrder, saved_of}
use Rattle.ctl_saved.proofs.InOrder.{in-order, ok-then}
use Rattle.ctl_saved.proofs.saving.saved.Goals as goal

pub returns-clause-order : goal.returns-clause-order
returns-clause-order c =
    let s = c.args.ctl.now.state in
    ok-then c.saved_cluster.result (λ saved. saved ≡ saved_of (state_of c.cluster.result.now))
    (λ saved. StandsInOrder s → IsInOrder saved) c.saved_cluster.ensures
    (λ saved is stands. rw (is, c.cluster.ensures.value) (in-order s c.cluster.ensures.sound.rising stands))
