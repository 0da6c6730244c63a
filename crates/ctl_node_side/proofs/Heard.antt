-- A node that isn't there hears nothing.
use Rattle.std.proofs.Common.{ℕ, zero, suc, ◌≡◌, ◌≤◌, List, [], ◌∷◌, length, refl, ap, arith}
use Rattle.node_state.specs.declared.record.NodeRecord.{NodeRecord}
use Rattle.node_state.specs.declared.record.NodeChange.{NodeChange}
use Rattle.node_state.specs.Nodes.{change_at}

pub heard_past : (place : ℕ) (change : NodeChange) (nodes : List NodeRecord) → length nodes ≤ place
    → change_at place change nodes ≡ nodes
heard_past place change [] past = refl
heard_past zero change (node ∷ later) past = absurd (omega (arith, past))
heard_past (suc place) change (node ∷ later) past = ap (λ rest. node ∷ rest)
    (heard_past place change later (omega (arith, past)))
