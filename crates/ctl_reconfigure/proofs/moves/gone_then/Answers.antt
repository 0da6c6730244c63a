use Rattle.std.proofs.Common.{◌≡◌, ℕ, Bool, List, subst}
use Rattle.std.specs.Prelude.{IfOk}
use Rattle.node_state.specs.Reservations.{has}
use Rattle.ctl_reconfigure.specs.Reconfiguring.{gone_by, planned_names}
use Rattle.ctl_reconfigure.proofs.Listed.{listed}
use Rattle.ctl_reconfigure.proofs.moves.gone_then.Goals as goal

pub returns : goal.returns
returns c =
    let names = c.args.names.now in
    subst (λ (test : List ℕ → Bool). IfOk c.gone_after.result (λ gone. gone.items
    ≡ gone_by test (has (planned_names names c.args.cluster.now.plan.items)) names))
    (λ i name. listed c.args.now.now name _ (c.in_ok-lines.ensures name) i)
    (rw c.as_slice.ensures.value at c.gone_after.ensures)
