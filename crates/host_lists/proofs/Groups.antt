-- What the groups of names hold.
use Rattle.std.proofs.Common.{ℕ, ◌≡◌, ◌+◌, ◌||◌, if◌then◌else◌, Bool, true, false, List, [], ◌∷◌, ◌++◌, length, fold, sym, refl, ap, ◌∙◌, arith}
use Rattle.std.specs.Str.{bytes_eq}
use Rattle.std.specs.List.{list_all}
use Rattle.std.proofs.lemmas.List.Folds.{list_all-append}
use Rattle.std.proofs.lemmas.List.{length-append}
use Rattle.small_texts.specs.Name.{is_name}
use Rattle.host_lists.specs.Hosts.{has}
use Rattle.host_lists.specs.Folding.{same_group, is_of_group, with_grouped, grouped}
use Rattle.host_lists.proofs.NameSets.{has-append, or_assoc, or_swap, or_false}
use Rattle.host_lists.proofs.Both.{both-left, both-right}

-- the names of groups
abbrev pub flat : List (List (List ℕ)) → List (List ℕ)
flat [] = []
flat (group ∷ groups) = group ++ flat groups

has-flat-first : (q name : List ℕ) (group : List (List ℕ)) (rest : List (List ℕ)) → has q ((group ++ name ∷ []) ++ rest) ≡ (has q (group ++ rest) || bytes_eq q name)
has-flat-first q name group rest =
    has-append q (group ++ name ∷ []) rest
    ∙ (ap (λ (t : Bool). t || has q rest) (has-append q group (name ∷ []))
    ∙ (moved (has q group) (bytes_eq q name) (has q rest) ∙ ap (λ (t : Bool). t || bytes_eq q name) (sym (has-append q group rest))))
  where
    moved : (a b c : Bool) → ((a || (b || false)) || c) ≡ ((a || c) || b)
    moved true b c = refl
    moved false true c = sym (or_swap c true)
    moved false false c = sym (or_false c)

has-flat-with_grouped-step : (q name : List ℕ) (group : List (List ℕ)) (groups : List (List (List ℕ))) → has q (flat (with_grouped groups name)) ≡ (has q (flat groups) || bytes_eq q name) → (t : Bool) → has q (flat (if t then (group ++ name ∷ []) ∷ groups else group ∷ with_grouped groups name)) ≡ (has q (group ++ flat groups) || bytes_eq q name)
has-flat-with_grouped-step q name group groups more true = has-flat-first q name group (flat groups)
has-flat-with_grouped-step q name group groups more false =
    has-append q group (flat (with_grouped groups name))
    ∙ (ap (λ (t : Bool). has q group || t) more
    ∙ (sym (or_assoc (has q group) (has q (flat groups)) (bytes_eq q name)) ∙ ap (λ (t : Bool). t || bytes_eq q name) (sym (has-append q group (flat groups)))))

has-flat-with_grouped : (q name : List ℕ) (groups : List (List (List ℕ))) → has q (flat (with_grouped groups name)) ≡ (has q (flat groups) || bytes_eq q name)
has-flat-with_grouped q name [] = or_false (bytes_eq q name)
has-flat-with_grouped q name (group ∷ groups) = has-flat-with_grouped-step q name group groups (has-flat-with_grouped q name groups) (is_of_group group name)

has-flat-fold : (q : List ℕ) (names : List (List ℕ)) (groups : List (List (List ℕ))) → has q (flat (fold with_grouped groups names)) ≡ (has q (flat groups) || has q names)
has-flat-fold q [] groups = sym (or_false (has q (flat groups)))
has-flat-fold q (name ∷ names) groups =
    has-flat-fold q names (with_grouped groups name)
    ∙ (ap (λ (t : Bool). t || has q names) (has-flat-with_grouped q name groups) ∙ or_assoc (has q (flat groups)) (bytes_eq q name) (has q names))

pub has_flat_grouped : (q : List ℕ) (names : List (List ℕ)) → has q (flat (grouped names)) ≡ has q names
unfolding grouped
has_flat_grouped q names = has-flat-fold q names []

-- as many names as before, and one
length-flat-with_grouped-step : (name : List ℕ) (group : List (List ℕ)) (groups : List (List (List ℕ))) → length (flat (with_grouped groups name)) ≡ length (flat groups) + 1 → (t : Bool) → length (flat (if t then (group ++ name ∷ []) ∷ groups else group ∷ with_grouped groups name)) ≡ length (group ++ flat groups) + 1
length-flat-with_grouped-step name group groups more true =
    omega (arith, length-append (group ++ name ∷ []) (flat groups), length-append group (name ∷ []), length-append group (flat groups))
length-flat-with_grouped-step name group groups more false =
    omega (arith, more, length-append group (flat (with_grouped groups name)), length-append group (flat groups))

length-flat-with_grouped : (name : List ℕ) (groups : List (List (List ℕ))) → length (flat (with_grouped groups name)) ≡ length (flat groups) + 1
length-flat-with_grouped name [] = refl
length-flat-with_grouped name (group ∷ groups) = length-flat-with_grouped-step name group groups (length-flat-with_grouped name groups) (is_of_group group name)

length-flat-fold : (names : List (List ℕ)) (groups : List (List (List ℕ))) → length (flat (fold with_grouped groups names)) ≡ length (flat groups) + length names
length-flat-fold [] groups = omega arith
length-flat-fold (name ∷ names) groups =
    omega (arith, length-flat-fold names (with_grouped groups name), length-flat-with_grouped name groups)

pub length-flat-grouped : (names : List (List ℕ)) → length (flat (grouped names)) ≡ length names
unfolding grouped
length-flat-grouped names = omega (arith, length-flat-fold names [])

-- names of one group
abbrev pub IsGroup : List (List ℕ) → Type 0
IsGroup [] = ⊥
IsGroup (first ∷ names) = (is_name first ≡ true) × (list_all is_name names ≡ true) × (list_all (same_group first) names ≡ true)

abbrev pub AreGroups : List (List (List ℕ)) → Type 0
AreGroups [] = Unit {0}
AreGroups (group ∷ groups) = IsGroup group × AreGroups groups

pub all-push : {X : Type 0} (p : X → Bool) (xs : List X) (x : X) → list_all p xs ≡ true → p x ≡ true → list_all p (xs ++ x ∷ []) ≡ true
all-push p xs x h k = list_all-append p xs (x ∷ []) ∙ rw (h, k) refl

IsGroup-push : (group : List (List ℕ)) (name : List ℕ) → is_name name ≡ true → is_of_group group name ≡ true → IsGroup group → IsGroup (group ++ name ∷ [])
IsGroup-push [] name h k g = absurd g
IsGroup-push (first ∷ names) name h k g = (g.0, all-push is_name names name g.1 h, all-push (same_group first) names name g.2 k)

AreGroups-step : (name : List ℕ) (group : List (List ℕ)) (groups : List (List (List ℕ))) → is_name name ≡ true → IsGroup group → AreGroups groups → AreGroups (with_grouped groups name) → (t : Bool) → is_of_group group name ≡ t → AreGroups (if t then (group ++ name ∷ []) ∷ groups else group ∷ with_grouped groups name)
AreGroups-step name group groups h g more rest true e = (IsGroup-push group name h e g, more)
AreGroups-step name group groups h g more rest false e = (g, rest)

AreGroups-with_grouped : (name : List ℕ) (groups : List (List (List ℕ))) → is_name name ≡ true → AreGroups groups → AreGroups (with_grouped groups name)
AreGroups-with_grouped name [] h g = ((h, refl, refl), tt)
AreGroups-with_grouped name (group ∷ groups) h g =
    AreGroups-step name group groups h g.0 g.1 (AreGroups-with_grouped name groups h g.1) (is_of_group group name) refl

AreGroups-fold : (names : List (List ℕ)) (groups : List (List (List ℕ))) → list_all is_name names ≡ true → AreGroups groups → AreGroups (fold with_grouped groups names)
AreGroups-fold [] groups h g = g
AreGroups-fold (name ∷ names) groups h g =
    AreGroups-fold names (with_grouped groups name) (both-right (is_name name) (list_all is_name names) h) (AreGroups-with_grouped name groups (both-left (is_name name) (list_all is_name names) h) g)

pub AreGroups-grouped : (names : List (List ℕ)) → list_all is_name names ≡ true → AreGroups (grouped names)
unfolding grouped
AreGroups-grouped names h = AreGroups-fold names [] h tt
