-- Which names a list has, whatever its order.
use Rattle.std.proofs.Common.{ℕ, ◌≡◌, ◌+◌, ◌≤◌, ◌||◌, if◌then◌else◌, Bool, true, false, Ordering, List, [], ◌∷◌, ◌++◌, length, fold, sym, refl, ap, ◌∙◌, arith}
use Rattle.std.specs.Str.{bytes_eq}
use Rattle.std.specs.List.{list_all}
use Rattle.std.specs.BTreeSet.{insert_key}
use Rattle.std.specs.Ordering.{nat_cmp, match_ordering, is_eq}
use Rattle.std.specs.Cmp.Lexicographic.{slice_cmp}
use Rattle.std.specs.declared.cmp.Ordering.TheVariants.{Less, Equal, Greater}
use Rattle.std.proofs.lemmas.List.Folds.{list_any-append}
use Rattle.std.proofs.lemmas.Map.Text.{is_eq-slice_cmp}
use Rattle.std.proofs.lemmas.List.{length-append}
use Rattle.host_lists.specs.Hosts.{has, with_name, distinct}
use Rattle.host_lists.specs.Folding.{in_byte_order}
use Rattle.host_lists.proofs.HostLemmas.{bytes_eq-same, bytes_eq-refl, has-push}
use Rattle.host_lists.proofs.Both.{both-left, both-right}

pub or_assoc : (a b c : Bool) → ((a || b) || c) ≡ (a || (b || c))
or_assoc true b c = refl
or_assoc false b c = refl

pub or_swap : (a b : Bool) → (a || b) ≡ (b || a)
or_swap true true = refl
or_swap true false = refl
or_swap false true = refl
or_swap false false = refl

pub or_false : (a : Bool) → (a || false) ≡ a
or_false true = refl
or_false false = refl

pub has-append : (q : List ℕ) (xs ys : List (List ℕ)) → has q (xs ++ ys) ≡ (has q xs || has q ys)
has-append q xs ys = list_any-append (bytes_eq q) xs ys

-- a name that is there already
has-twice : (q name : List ℕ) (names : List (List ℕ)) → has name names ≡ true → (has q names || bytes_eq q name) ≡ has q names
has-twice q name names h = by_name (bytes_eq q name) refl where
  by_name : (t : Bool) → bytes_eq q name ≡ t → (has q names || t) ≡ has q names
  by_name true e =
      let there : has q names ≡ true = ap (λ (x : List ℕ). has x names) (bytes_eq-same q name e) ∙ h in
      rw there refl
  by_name false e = or_false (has q names)

pub has-with_name : (q : List ℕ) (names : List (List ℕ)) (name : List ℕ) → has q (with_name names name) ≡ (has q names || bytes_eq q name)
has-with_name q names name = by_has (has name names) refl where
  by_has : (t : Bool) → has name names ≡ t → has q (if t then names else names ++ name ∷ []) ≡ (has q names || bytes_eq q name)
  by_has true e = sym (has-twice q name names e)
  by_has false e = has-push q names name

pub has-fold-with_name : (q : List ℕ) (more names : List (List ℕ)) → has q (fold with_name names more) ≡ (has q names || has q more)
has-fold-with_name q [] names = sym (or_false (has q names))
has-fold-with_name q (name ∷ more) names =
    has-fold-with_name q more (with_name names name)
    ∙ (ap (λ (t : Bool). t || has q more) (has-with_name q names name) ∙ or_assoc (has q names) (bytes_eq q name) (has q more))

pub has-distinct : (q : List ℕ) (names : List (List ℕ)) → has q (distinct names) ≡ has q names
has-distinct q names = has-fold-with_name q names []

length-with_name-le : (names : List (List ℕ)) (name : List ℕ) → length (with_name names name) ≤ length names + 1
length-with_name-le names name = by_has (has name names) where
  by_has : (t : Bool) → length (if t then names else names ++ name ∷ []) ≤ length names + 1
  by_has true = omega arith
  by_has false = omega (arith, length-append names (name ∷ []))

pub length-fold-with_name-le : (more names : List (List ℕ)) → length (fold with_name names more) ≤ length names + length more
length-fold-with_name-le [] names = omega arith
length-fold-with_name-le (name ∷ more) names =
    omega (arith, length-with_name-le names name, length-fold-with_name-le more (with_name names name))

-- names at their places in byte order
abbrev pub insert_name : List (List ℕ) → List ℕ → List (List ℕ)
insert_name = insert_key (slice_cmp nat_cmp)

has-insert_name-step : (q x name : List ℕ) (names : List (List ℕ)) → has q (insert_name names name) ≡ (has q names || bytes_eq q name) → (o : Ordering) → slice_cmp nat_cmp name x ≡ o → has q (match_ordering o (name ∷ x ∷ names) (x ∷ names) (x ∷ insert_name names name)) ≡ ((bytes_eq q x || has q names) || bytes_eq q name)
has-insert_name-step q x name names more Less e = or_swap (bytes_eq q name) (bytes_eq q x || has q names)
has-insert_name-step q x name names more Equal e =
    let same : name ≡ x = bytes_eq-same name x (sym (is_eq-slice_cmp name x) ∙ ap is_eq e) in
    sym (has-twice q name (x ∷ names) (ap (λ (y : List ℕ). has y (x ∷ names)) same ∙ ap (λ (t : Bool). t || has x names) (bytes_eq-refl x)))
has-insert_name-step q x name names more Greater e = ap (λ (t : Bool). bytes_eq q x || t) more ∙ sym (or_assoc (bytes_eq q x) (has q names) (bytes_eq q name))

pub has-insert_name : (q name : List ℕ) (names : List (List ℕ)) → has q (insert_name names name) ≡ (has q names || bytes_eq q name)
has-insert_name q name [] = or_false (bytes_eq q name)
has-insert_name q name (x ∷ names) = has-insert_name-step q x name names (has-insert_name q name names) (slice_cmp nat_cmp name x) refl

has-fold-insert_name : (q : List ℕ) (more names : List (List ℕ)) → has q (fold insert_name names more) ≡ (has q names || has q more)
has-fold-insert_name q [] names = sym (or_false (has q names))
has-fold-insert_name q (name ∷ more) names =
    has-fold-insert_name q more (insert_name names name)
    ∙ (ap (λ (t : Bool). t || has q more) (has-insert_name q name names) ∙ or_assoc (has q names) (bytes_eq q name) (has q more))

pub has_in_byte_order : (q : List ℕ) (names : List (List ℕ)) → has q (in_byte_order names) ≡ has q names
unfolding in_byte_order
has_in_byte_order q names = has-fold-insert_name q names []

-- what each name passes, and how many names there are
list_all-insert_name-step : (p : List ℕ → Bool) (x name : List ℕ) (names : List (List ℕ)) → p name ≡ true → p x ≡ true → list_all p names ≡ true → list_all p (insert_name names name) ≡ true → (o : Ordering) → list_all p (match_ordering o (name ∷ x ∷ names) (x ∷ names) (x ∷ insert_name names name)) ≡ true
list_all-insert_name-step p x name names g h k more Less = rw (g, h, k) refl
list_all-insert_name-step p x name names g h k more Equal = rw (h, k) refl
list_all-insert_name-step p x name names g h k more Greater = rw (h, more) refl

list_all-insert_name : (p : List ℕ → Bool) (name : List ℕ) (names : List (List ℕ)) → p name ≡ true → list_all p names ≡ true → list_all p (insert_name names name) ≡ true
list_all-insert_name p name [] h k = rw h refl
list_all-insert_name p name (x ∷ names) h k =
    list_all-insert_name-step p x name names h (both-left (p x) (list_all p names) k) (both-right (p x) (list_all p names) k) (list_all-insert_name p name names h (both-right (p x) (list_all p names) k)) (slice_cmp nat_cmp name x)

list_all-fold-insert_name : (p : List ℕ → Bool) (more names : List (List ℕ)) → list_all p names ≡ true → list_all p more ≡ true → list_all p (fold insert_name names more) ≡ true
list_all-fold-insert_name p [] names h k = h
list_all-fold-insert_name p (name ∷ more) names h k =
    list_all-fold-insert_name p more (insert_name names name) (list_all-insert_name p name names (both-left (p name) (list_all p more) k) h) (both-right (p name) (list_all p more) k)

pub list_all-in_byte_order : (p : List ℕ → Bool) (names : List (List ℕ)) → list_all p names ≡ true → list_all p (in_byte_order names) ≡ true
unfolding in_byte_order
list_all-in_byte_order p names h = list_all-fold-insert_name p names [] refl h

record Grows (low n high : ℕ) : Type 0 where
  pub some : 1 ≤ n
  pub least : low ≤ n
  pub most : n ≤ high

length-insert_name-step : (x name : List ℕ) (names : List (List ℕ)) → Grows (length names) (length (insert_name names name)) (length names + 1) → (o : Ordering) → Grows (length (x ∷ names)) (length (match_ordering o (name ∷ x ∷ names) (x ∷ names) (x ∷ insert_name names name))) (length (x ∷ names) + 1)
length-insert_name-step x name names more Less = record { some = omega arith; least = omega arith; most = omega arith }
length-insert_name-step x name names more Equal = record { some = omega arith; least = omega arith; most = omega arith }
length-insert_name-step x name names more Greater = record { some = omega arith; least = omega arith; most = omega arith }

length-insert_name : (name : List ℕ) (names : List (List ℕ)) → Grows (length names) (length (insert_name names name)) (length names + 1)
length-insert_name name [] = record { some = omega arith; least = omega arith; most = omega arith }
length-insert_name name (x ∷ names) = length-insert_name-step x name names (length-insert_name name names) (slice_cmp nat_cmp name x)

length-fold-insert_name : (more names : List (List ℕ)) → (length names ≤ length (fold insert_name names more)) × (length (fold insert_name names more) ≤ length names + length more)
length-fold-insert_name [] names = (omega arith, omega arith)
length-fold-insert_name (name ∷ more) names =
    let one : Grows (length names) (length (insert_name names name)) (length names + 1) = length-insert_name name names in
    let rest = length-fold-insert_name more (insert_name names name) in
    (omega (arith, one.least, rest.0), omega (arith, one.most, rest.1))

pub length-in_byte_order : (names : List (List ℕ)) → length (in_byte_order names) ≤ length names
unfolding in_byte_order
length-in_byte_order names = omega (arith, (length-fold-insert_name names []).1)

pub some-in_byte_order : (names : List (List ℕ)) → 1 ≤ length names → 1 ≤ length (in_byte_order names)
unfolding in_byte_order
some-in_byte_order [] h = h
some-in_byte_order (name ∷ names) h =
    omega (arith, (length-insert_name name []).some, (length-fold-insert_name names (insert_name [] name)).0)
