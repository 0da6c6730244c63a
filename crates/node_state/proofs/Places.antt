-- The places that names lead to.
use Rattle.std.proofs.Common.{◌≡◌, ℕ, ◌+◌, ◌<◌, ◌≤◌, Bool, true, false, cond, if◌then◌else◌, not, ltb, eqb, List, [], ◌∷◌, ◌++◌, length, take, get_or, HoldsAt, bytes_eq, Option, Some, None, refl, sym, ap, ◌∙◌, arith}
use Rattle.std.specs.List.{position, position_or_len}
use Rattle.std.proofs.lemmas.Bool.Decides.{nat_tests}
use Rattle.std.proofs.lemmas.Slice.Eq.{bytes_eq-Decides}
use Rattle.std.proofs.lemmas.List.{length_push, length-take-le, get_or-take, take_more}
use Rattle.std.proofs.lemmas.List.Folds.{position_or_len_push}
use Rattle.std.proofs.lemmas.List.Sums.{position_or_len_is, prefix_len-le-length}
use Rattle.std.proofs.lemmas.List.Quantifiers.{position-Some}
use Rattle.node_state.specs.declared.record.NodeRecord.{NodeRecord}
use Rattle.node_state.specs.Nodes.{is_named, place_named, AreNamedOnce}

-- the first element that passes, with one more behind the others
pub position-push : {X : Type 0} (p : X → Bool) (xs : List X) (y : X) → (p y ≡ true → position p xs ≡ None) → position p (xs ++ y ∷ []) ≡ (if p y then Some (length xs) else position p xs)
position-push p xs y alone =
    rw (position_or_len_push p xs y, length_push xs y) (at (p y) (position_or_len p xs) (length xs) (prefix_len-le-length (λ x. not (p x)) xs) alone) where
      at : (b : Bool) (n m : ℕ) → n ≤ m → (b ≡ true → cond (ltb n m) (Some n) None ≡ None)
          → cond (ltb (cond (eqb n m) (m + cond b 0 1) n) (m + 1)) (Some (cond (eqb n m) (m + cond b 0 1) n)) None ≡ cond b (Some m) (cond (ltb n m) (Some n) None)
      at true n m within alone = grind (arith, nat_tests, alone refl)
      at false n m within alone = grind (arith, nat_tests)

-- no earlier node has a later one's name
none-before : (name : List ℕ) (nodes : List NodeRecord) (k place : ℕ) (d : NodeRecord) → AreNamedOnce nodes → k < place → place < length nodes → is_named name (get_or nodes place d) ≡ true → is_named name (get_or nodes k d) ≡ false
none-before name nodes k place d once before inside has = no (is_named name (get_or nodes k d)) (λ same. once.once k place d before inside ((bytes_eq-Decides _ _).0 same ∙ sym ((bytes_eq-Decides _ _).0 has))) where
  no : (b : Bool) → (b ≡ true → ⊥) → b ≡ false
  no true never = absurd (never refl)
  no false never = refl

pub place-of_name : (place : ℕ) (nodes : List NodeRecord) → AreNamedOnce nodes → place < length nodes → HoldsAt (λ (node : NodeRecord). place_named node.conf.name nodes ≡ Some place) nodes place
place-of_name place nodes once inside d =
    let name : List ℕ = (get_or nodes place d).conf.name in
    let has : is_named name (get_or nodes place d) ≡ true = (bytes_eq-Decides name name).1 refl in
    let first : position_or_len (is_named name) nodes ≡ place = position_or_len_is (is_named name) nodes place d (omega (arith, inside)) (λ k before. none-before name nodes k place d once before inside has) (λ within. has) in
    at (position_or_len (is_named name) nodes) (length nodes) first inside where
      at : (n m : ℕ) → n ≡ place → place < m → cond (ltb n m) (Some n) None ≡ Some place
      at n m is below = grind (arith, nat_tests)

pub name-of_place : (name : List ℕ) (place : ℕ) (nodes : List NodeRecord) → place_named name nodes ≡ Some place → (place < length nodes) × HoldsAt (λ (node : NodeRecord). node.conf.name ≡ name) nodes place
name-of_place name place [] leads = cc
name-of_place name place (first ∷ later) leads =
    let found : (d : NodeRecord) → (place < length (first ∷ later)) × (is_named name (get_or (first ∷ later) place d) ≡ true) × ((k : ℕ) → k < place → is_named name (get_or (first ∷ later) k d) ≡ false) = λ d. position-Some (is_named name) (first ∷ later) place d leads in
    ((found first).0, λ d. (bytes_eq-Decides _ _).0 (found d).1)

-- no node before a place has the name of the one there
none-so_far : (name : List ℕ) (nodes : List NodeRecord) (place : ℕ) (d : NodeRecord) → AreNamedOnce nodes → place < length nodes → is_named name (get_or nodes place d) ≡ true → place_named name (take place nodes) ≡ None
none-so_far name nodes place d once inside has =
    let count : length (take place nodes) ≡ place = length-take-le place nodes (omega (arith, inside)) in
    let none : position_or_len (is_named name) (take place nodes) ≡ place = position_or_len_is (is_named name) (take place nodes) place d (omega (arith, count))
    (λ k before. rw (get_or-take place nodes k d before) (none-before name nodes k place d once before inside has)) (λ within. absurd (omega (arith, count, within))) in
    at (position_or_len (is_named name) (take place nodes)) (length (take place nodes)) none count where
      at : (n m : ℕ) → n ≡ place → m ≡ place → cond (ltb n m) (Some n) None ≡ None
      at n m is all = grind (arith, nat_tests)

-- the places of one more node
pub places-more : (name key : List ℕ) (nodes : List NodeRecord) (place : ℕ) (node : NodeRecord) (was now : Option ℕ) → AreNamedOnce nodes → place < length nodes → node ≡ get_or nodes place node → key ≡ node.conf.name
    → was ≡ place_named name (take place nodes) → now ≡ (if bytes_eq key name then Some place else was) → now ≡ place_named name (take (place + 1) nodes)
places-more name key nodes place node was now once inside is same before after =
    let count : length (take place nodes) ≡ place = length-take-le place nodes (omega (arith, inside)) in
    let more : take (place + 1) nodes ≡ take place nodes ++ node ∷ [] = take_more nodes place node inside ∙ ap (λ last. take place nodes ++ last ∷ []) (sym is) in
    let alone : is_named name node ≡ true → place_named name (take place nodes) ≡ None = λ has. none-so_far name nodes place node once inside (rw (← is) has) in
    rw (after, same, before, more, position-push (is_named name) (take place nodes) node alone, count) refl
