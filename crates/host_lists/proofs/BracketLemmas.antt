-- The names of a bracket, as they are found from the left.
use Rattle.std.proofs.Common.{ℕ, ◌≡◌, ◌≤◌, ◌&&◌, if◌then◌else◌, nat_le, Bool, true, false, Option, Some, None, is_some, option_and_then, unwrap_or, List, [], ◌∷◌, ◌++◌, length, fold, sym, refl, ap, ◌∙◌, subst, arith}
use Rattle.std.specs.List.{list_all}
use Rattle.std.proofs.lemmas.List.Folds.{list_all-append}
use Rattle.std.proofs.lemmas.List.Sums.{fold-append}
use Rattle.std.proofs.lemmas.List.{length-append}
use Rattle.std.proofs.lemmas.Bool.Decides.{nat_tests}
use Rattle.small_texts.specs.Name.{is_name}
use Rattle.host_lists.specs.Hosts.{Numbers, numbers_in, range_names, has, with_name, distinct, made_by_parts, few}
use Rattle.host_lists.specs.Counting.{few_with, with_part}

-- names only grow in number
length-with_name : (names : List (List ℕ)) (name : List ℕ) → length names ≤ length (with_name names name)
length-with_name names name = by_has (has name names) where
  by_has : (t : Bool) → length names ≤ length (if t then names else names ++ name ∷ [])
  by_has true = omega arith
  by_has false = omega (arith, length-append names (name ∷ []))

pub length-fold-with_name : (more names : List (List ℕ)) → length names ≤ length (fold with_name names more)
length-fold-with_name [] names = omega arith
length-fold-with_name (name ∷ more) names =
    omega (arith, length-with_name names name, length-fold-with_name more (with_name names name))

-- what the parts add to the names that were counted
abbrev pub added : List ℕ → List (List ℕ) → List (List ℕ) → Option (List (List ℕ))
added prefix [] found = Some found
added prefix (part ∷ parts) found = option_and_then (added prefix parts) (with_part prefix found part)

joined : {X : Type 0} (p q s t : Bool) (x : X) → (s ≡ false → t ≡ false) → (if (p && q) && t then Some x else None) ≡ (if p && s then (if q && t then Some x else None) else None)
joined true q true t x h = refl
joined true true false t x h = rw h refl
joined true false false t x h = refl
joined false q s t x h = refl

chosen : {X Y : Type 0} (t : Bool) (x : X) (f : X → Option Y) → option_and_then f (if t then Some x else None) ≡ (if t then f x else None)
chosen true x f = refl
chosen false x f = refl

few_with-append : (found a b : List (List ℕ)) → few_with found (a ++ b) ≡ option_and_then (λ f. few_with f b) (few_with found a)
unfolding few_with
few_with-append found a b =
    let first : List (List ℕ) = fold with_name found a in
    let both : List (List ℕ) = fold with_name first b in
    let more : nat_le (length first) 1024 ≡ false → nat_le (length both) 1024 ≡ false = λ h. few_grows (length first) (length both) (length-fold-with_name b first) h in
    rw (list_all-append is_name a b, fold-append with_name found a b)
    (joined (list_all is_name a) (list_all is_name b) (nat_le (length first) 1024) (nat_le (length both) 1024) both more
    ∙ sym (chosen (list_all is_name a && nat_le (length first) 1024) first (λ f. few_with f b)))
  where
    few_grows : (n m : ℕ) → n ≤ m → nat_le n 1024 ≡ false → nat_le m 1024 ≡ false
    few_grows n m h k = grind (arith, nat_tests)

few_with-few : (found a f : List (List ℕ)) → few_with found a ≡ Some f → length f ≤ 1024
unfolding few_with
few_with-few found a f h = by_test (list_all is_name a && nat_le (length (fold with_name found a)) 1024) refl h where
  by_test : (t : Bool) → (list_all is_name a && nat_le (length (fold with_name found a)) 1024) ≡ t → (if t then Some (fold with_name found a) else None) ≡ Some f → length f ≤ 1024
  by_test true e k =
      let same : fold with_name found a ≡ f = cc in
      let P : List (List ℕ) → Type 0 = λ x. length x ≤ 1024 in
      subst P same (few (list_all is_name a) (length (fold with_name found a)) e)
    where
      few : (p : Bool) (n : ℕ) → (p && nat_le n 1024) ≡ true → n ≤ 1024
      few p n e = grind (arith, nat_tests)
  by_test false e k = cc

added-is-step : (prefix : List ℕ) (parts found : List (List ℕ)) → ((f : List (List ℕ)) → length f ≤ 1024 → added prefix parts f ≡ option_and_then (few_with f) (made_by_parts prefix parts)) → (o : Option Numbers) → option_and_then (added prefix parts) (option_and_then (λ n. few_with found (range_names prefix n)) o) ≡ option_and_then (few_with found) (option_and_then (λ n. option_and_then (λ more. Some (range_names prefix n ++ more)) (made_by_parts prefix parts)) o)
added-is-step prefix parts found more None = refl
added-is-step prefix parts found more (Some n) = by_front (few_with found (range_names prefix n)) refl (made_by_parts prefix parts) refl where
  by_front : (o : Option (List (List ℕ))) → few_with found (range_names prefix n) ≡ o → (rest : Option (List (List ℕ))) → made_by_parts prefix parts ≡ rest → option_and_then (added prefix parts) o ≡ option_and_then (few_with found) (option_and_then (λ more. Some (range_names prefix n ++ more)) rest)
  by_front None e None k = refl
  by_front None e (Some rest) k = sym (few_with-append found (range_names prefix n) rest ∙ ap (λ (x : Option (List (List ℕ))). option_and_then (λ f. few_with f rest) x) e)
  by_front (Some f) e None k = more f (few_with-few found (range_names prefix n) f e) ∙ ap (λ (x : Option (List (List ℕ))). option_and_then (few_with f) x) k
  by_front (Some f) e (Some rest) k =
      more f (few_with-few found (range_names prefix n) f e)
      ∙ (ap (λ (x : Option (List (List ℕ))). option_and_then (few_with f) x) k
      ∙ sym (few_with-append found (range_names prefix n) rest ∙ ap (λ (x : Option (List (List ℕ))). option_and_then (λ g. few_with g rest) x) e))

pub added-is : (prefix : List ℕ) (parts found : List (List ℕ)) → length found ≤ 1024 → added prefix parts found ≡ option_and_then (few_with found) (made_by_parts prefix parts)
unfolding few_with with_part
added-is prefix [] found h = rw (le found h) refl where
  le : (found : List (List ℕ)) → length found ≤ 1024 → nat_le (length found) 1024 ≡ true
  le found h = grind (arith, nat_tests)
added-is prefix (part ∷ parts) found h =
    added-is-step prefix parts found (λ f k. added-is prefix parts f k) (numbers_in part)

is_some-if : {X Y : Type 0} (t : Bool) (x : X) (y : Y) → is_some (if t then Some x else None) ≡ is_some (if t then Some y else None)
is_some-if true x y = refl
is_some-if false x y = refl

-- from no names on: whether the bracket is good
pub added-good : (prefix : List ℕ) (parts : List (List ℕ)) → is_some (added prefix parts []) ≡ is_some (option_and_then few (made_by_parts prefix parts))
unfolding few few_with
added-good prefix parts = ap is_some (added-is prefix parts [] (omega arith)) ∙ by_made (made_by_parts prefix parts) where
  by_made : (o : Option (List (List ℕ))) → is_some (option_and_then (few_with []) o) ≡ is_some (option_and_then few o)
  by_made None = refl
  by_made (Some names) = is_some-if (list_all is_name names && nat_le (length (distinct names)) 1024) (distinct names) names

-- a name alone
pub one_name : (name : List ℕ) → is_some (few (name ∷ [])) ≡ is_name name
unfolding few
one_name name = by_test (is_name name) where
  by_test : (t : Bool) → is_some (if (t && true) && true then Some (name ∷ []) else None) ≡ t
  by_test true = refl
  by_test false = refl

-- a part that is counted
pub part-good : (prefix part : List ℕ) (found new : List (List ℕ)) (numbers : Numbers) → numbers_in part ≡ Some numbers → list_all is_name (range_names prefix numbers) ≡ true → new ≡ fold with_name found (range_names prefix numbers) → length new ≤ 1024 → with_part prefix found part ≡ Some new
unfolding with_part few_with
part-good prefix part found new numbers e h k n =
    rw (e, h, low (length (fold with_name found (range_names prefix numbers))) (omega (arith, n, ap length k))) (ap Some (sym k))
  where
    low : (m : ℕ) → m ≤ 1024 → nat_le m 1024 ≡ true
    low m g = grind (arith, nat_tests)

-- the parts of a good bracket, one after the other
pub record Makes (prefix part : List ℕ) (parts : List (List ℕ)) (numbers : Numbers) : Type 0 where
  pub more : is_some (made_by_parts prefix parts) ≡ true
  pub names : unwrap_or (made_by_parts prefix (part ∷ parts)) [] ≡ range_names prefix numbers ++ unwrap_or (made_by_parts prefix parts) []

pub makes : (prefix part : List ℕ) (parts : List (List ℕ)) (numbers : Numbers) → numbers_in part ≡ Some numbers → is_some (made_by_parts prefix (part ∷ parts)) ≡ true → Makes prefix part parts numbers
makes prefix part parts numbers e h = by_rest (made_by_parts prefix parts) refl (sym (ap (λ (o : Option Numbers). is_some (option_and_then (λ n. option_and_then (λ more. Some (range_names prefix n ++ more)) (made_by_parts prefix parts)) o)) e) ∙ h) where
  by_rest : (o : Option (List (List ℕ))) → made_by_parts prefix parts ≡ o → is_some (option_and_then (λ more. Some (range_names prefix numbers ++ more)) (made_by_parts prefix parts)) ≡ true → Makes prefix part parts numbers
  by_rest None g k = absurd (none (sym (ap (λ (x : Option (List (List ℕ))). is_some (option_and_then (λ more. Some (range_names prefix numbers ++ more)) x)) g) ∙ k)) where
    none : false ≡ true → ⊥
    none p = cc
  by_rest (Some rest) g k = record { more = ap is_some g; names = rw (e, g) refl }

pub makes-none : (prefix part : List ℕ) (parts : List (List ℕ)) → numbers_in part ≡ None → is_some (made_by_parts prefix (part ∷ parts)) ≡ true → ⊥
makes-none prefix part parts e h = none (ap (λ (o : Option Numbers). is_some (option_and_then (λ n. option_and_then (λ more. Some (range_names prefix n ++ more)) (made_by_parts prefix parts)) o)) (sym e) ∙ h) where
  none : false ≡ true → ⊥
  none p = cc

-- what a good item makes is names
pub record IsMade (o : Option (List (List ℕ))) : Type 0 where
  pub some : is_some o ≡ true
  pub named : list_all is_name (unwrap_or o []) ≡ true
  pub same : option_and_then few o ≡ o

pub is_made : (o : Option (List (List ℕ))) → is_some (option_and_then few o) ≡ true → IsMade o
unfolding few
is_made None h = absurd (none h) where
  none : false ≡ true → ⊥
  none p = cc
is_made (Some names) h = by_test (list_all is_name names) (nat_le (length (distinct names)) 1024) refl refl h where
  by_test : (s t : Bool) → list_all is_name names ≡ s → nat_le (length (distinct names)) 1024 ≡ t → is_some (if list_all is_name names && nat_le (length (distinct names)) 1024 then Some names else None) ≡ true → IsMade (Some names)
  by_test true true e g k = record { some = refl; named = e; same = rw (e, g) refl }
  by_test true false e g k = absurd (none (sym (rw (e, g) refl) ∙ k)) where
    none : false ≡ true → ⊥
    none p = cc
  by_test false t e g k = absurd (none (sym (rw e refl) ∙ k)) where
    none : false ≡ true → ⊥
    none p = cc
