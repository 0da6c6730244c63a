-- What is held of a node, and how it changes over time.
use Rattle.std.proofs.Common.{◌≡◌, ℕ, ◌+◌, ◌≤◌, ◌<◌, true, ◌&&◌, cond, eqb, ltb, leb, List, [], ◌∷◌, ◌++◌, sum_by}
use Rattle.std.proofs.lemmas.Bool.{and_parts, and_from, eqb-true, eq-eqb, leb-true, le-leb, ltb-true, lt-ltb}
use Rattle.std.proofs.lemmas.List.Sums.{sum_by_push}
use Rattle.resource_profile.specs.declared.Hold.{Hold}
use Rattle.resource_profile.specs.Free.{covers}

-- what a hold that covers the moment says
pub covers-true : (node moment : ℕ) (hold : Hold) → covers node moment hold ≡ true → (hold.node ≡ node) × (hold.from ≤ moment) × (moment < hold.until)
covers-true node moment hold covered =
    let parts = and_parts (eqb hold.node node) (leb hold.from moment && ltb moment hold.until) covered in
    let times = and_parts (leb hold.from moment) (ltb moment hold.until) parts.1 in
    (eqb-true hold.node node parts.0, leb-true hold.from moment times.0, ltb-true moment hold.until times.1)

pub covers-from : (node moment : ℕ) (hold : Hold) → hold.node ≡ node → hold.from ≤ moment → moment < hold.until → covers node moment hold ≡ true
covers-from node moment hold same low high =
    and_from (eqb hold.node node) (leb hold.from moment && ltb moment hold.until) (eq-eqb hold.node node same) (and_from (leb hold.from moment) (ltb moment hold.until) (le-leb hold.from moment low) (lt-ltb moment hold.until high))

-- one more hold
pub held-push : (amount : Hold → ℕ) (node moment : ℕ) (holds : List Hold) (hold : Hold) → sum_by (λ (one : Hold). cond (covers node moment one) (amount one) 0) (holds ++ hold ∷ []) ≡ sum_by (λ (one : Hold). cond (covers node moment one) (amount one) 0) holds + cond (covers node moment hold) (amount hold) 0
held-push amount node moment holds hold = sum_by_push (λ (one : Hold). cond (covers node moment one) (amount one) 0) holds hold
