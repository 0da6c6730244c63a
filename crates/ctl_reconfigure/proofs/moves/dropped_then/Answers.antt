use Rattle.std.proofs.Common.{◌≡◌, ℕ, Bool, List, subst}
use Rattle.std.specs.Prelude.{IfOk}
use Rattle.ctl_reconfigure.specs.Reconfiguring.{dropped_by}
use Rattle.ctl_reconfigure.proofs.Listed.{listed}
use Rattle.ctl_reconfigure.proofs.moves.dropped_then.Goals as goal

pub returns : goal.returns
returns c =
    let cluster = c.args.cluster.now in
    subst (λ (test : List ℕ → Bool). IfOk c.dropped_after.result (λ all. all.items
    ≡ dropped_by test cluster.dropped.items cluster.nodes.records))
    (λ i name. listed c.args.now.now name _ (c.in_ok-lines.ensures name) i)
    (rw (c.as_slice.ensures.value, c.records.ensures.value) at c.dropped_after.ensures)
