-- Lines by names: what is found of a list whose members differ in their names.
use Rattle.std.proofs.Common.{ℕ, ◌≡◌, ◌≢◌, ◌∙◌, Bool, true, false, cond, List, [], ◌∷◌, map, All, AllPairs, Some, bytes_eq, refl, ap}
use Rattle.std.specs.Prelude.{find}
use Rattle.std.proofs.lemmas.Bool.{false_from_ne_true}
use Rattle.std.proofs.lemmas.List.Elements.{All-cons, All-head, All-nil, All-tail}
use Rattle.std.proofs.lemmas.Slice.Eq.{bytes_eq-Decides}
use Rattle.list_lemmas.proofs.Pairs.{pairs-head, pairs-tail}
use Rattle.ctl_reconfigure.proofs.NameLists.{bytes-same as same_name}

pub own_name : (name : List ℕ) → bytes_eq name name ≡ true
own_name name = (bytes_eq-Decides name name).1 refl

pub other_name : (one other : List ℕ) → one ≢ other → bytes_eq one other ≡ false
other_name one other differ =
    false_from_ne_true (bytes_eq one other) (λ same. differ (same_name one other same))

-- what is found of the members behind one whose name differs
past : {A B : Type 0} (line : A → B) (name : B → List ℕ) (x : A) (rest : List B) (ys : List A)
    → All (λ y. name (line x) ≢ name (line y)) ys
    → All (λ y. find (λ b. bytes_eq (name b) (name (line y))) rest ≡ Some (line y)) ys
    → All (λ y. find (λ b. bytes_eq (name b) (name (line y))) (line x ∷ rest) ≡ Some (line y)) ys
past {A} line name x rest [] apart found = All-nil (λ (y : A). find (λ b. bytes_eq (name b) (name (line y))) (line x ∷ rest) ≡ Some (line y))
past {A} line name x rest (y ∷ ys) apart found =
    let Found : A → Type 0 = λ y. find (λ b. bytes_eq (name b) (name (line y))) rest ≡ Some (line y) in
    let Apart : A → Type 0 = λ y. name (line x) ≢ name (line y) in
    All-cons (λ (y : A). find (λ b. bytes_eq (name b) (name (line y))) (line x ∷ rest) ≡ Some (line y)) y ys
    (ap (λ (is : Bool). cond is (Some (line x)) (find (λ b. bytes_eq (name b) (name (line y))) rest))
    (other_name (name (line x)) (name (line y)) (All-head Apart y ys apart))
    ∙ All-head Found y ys found)
    (past line name x rest ys (All-tail Apart y ys apart) (All-tail Found y ys found))

-- each line is found by its name
pub find_own : {A B : Type 0} (line : A → B) (name : B → List ℕ) (xs : List A)
    → AllPairs (λ one other. name (line one) ≢ name (line other)) xs
    → All (λ x. find (λ b. bytes_eq (name b) (name (line x))) (map line xs) ≡ Some (line x)) xs
find_own {A} line name [] apart = All-nil (λ (x : A). find (λ b. bytes_eq (name b) (name (line x))) [] ≡ Some (line x))
find_own {A} line name (x ∷ xs) apart =
    let Apart : A → A → Type 0 = λ one other. name (line one) ≢ name (line other) in
    All-cons (λ (y : A). find (λ b. bytes_eq (name b) (name (line y))) (line x ∷ map line xs) ≡ Some (line y)) x xs
    (ap (λ (is : Bool). cond is (Some (line x)) (find (λ b. bytes_eq (name b) (name (line x))) (map line xs)))
    (own_name (name (line x))))
    (past line name x (map line xs) xs (pairs-head Apart x xs apart) (find_own line name xs (pairs-tail Apart x xs apart)))
