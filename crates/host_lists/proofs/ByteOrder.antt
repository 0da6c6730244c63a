-- Byte order is one for a set of names, so a set has one folded text.
use Rattle.std.proofs.Common.{ℕ, ◌≡◌, ◌||◌, Bool, true, false, Ordering, List, [], ◌∷◌, fold, map, sym, refl, ap, ◌∙◌, subst}
use Rattle.std.specs.Str.{bytes_eq}
use Rattle.std.specs.Ordering.{nat_cmp, match_ordering, ordering_reverse, is_eq}
use Rattle.std.specs.Cmp.Lexicographic.{slice_cmp, nat_list_cmp_total}
use Rattle.std.specs.declared.cmp.Ordering.TheVariants.{Less, Equal, Greater}
use Rattle.std.proofs.lemmas.Map.Text.{is_eq-slice_cmp}
use Rattle.host_lists.specs.Hosts.{has}
use Rattle.host_lists.specs.Folding.{in_byte_order, grouped, group_text, with_commas, folded}
use Rattle.host_lists.proofs.HostLemmas.{bytes_eq-same, bytes_eq-refl}
use Rattle.host_lists.proofs.NameSets.{insert_name, has_in_byte_order}

abbrev order : List ℕ → List ℕ → Ordering
order = slice_cmp nat_cmp

-- a name stands below names, and names rise
abbrev Below : List ℕ → List (List ℕ) → Type 0
Below x [] = Unit {0}
Below x (y ∷ ys) = (order x y ≡ Less) × Below x ys

abbrev Ascending : List (List ℕ) → Type 0
Ascending [] = Unit {0}
Ascending (x ∷ xs) = Below x xs × Ascending xs

Below-trans : (k x : List ℕ) (xs : List (List ℕ)) → order k x ≡ Less → Below x xs → Below k xs
Below-trans k x [] h b = tt
Below-trans k x (y ∷ xs) h b = (nat_list_cmp_total.trans k x y h b.0, Below-trans k x xs h b.1)

Below-insert-step : (x k y : List ℕ) (ys : List (List ℕ)) → order x k ≡ Less → Below x (y ∷ ys) → Below x (insert_name ys k) → (o : Ordering) → Below x (match_ordering o (k ∷ y ∷ ys) (y ∷ ys) (y ∷ insert_name ys k))
Below-insert-step x k y ys h b more Less = (h, b)
Below-insert-step x k y ys h b more Equal = b
Below-insert-step x k y ys h b more Greater = (b.0, more)

Below-insert : (x k : List ℕ) (ys : List (List ℕ)) → order x k ≡ Less → Below x ys → Below x (insert_name ys k)
Below-insert x k [] h b = (h, tt)
Below-insert x k (y ∷ ys) h b = Below-insert-step x k y ys h b (Below-insert x k ys h b.1) (order k y)

reversed : (a b : List ℕ) (o : Ordering) → order a b ≡ o → order b a ≡ ordering_reverse o
reversed a b o e = nat_list_cmp_total.antisymm b a ∙ ap ordering_reverse e

Ascending-insert-step : (k x : List ℕ) (xs : List (List ℕ)) → Ascending (x ∷ xs) → Ascending (insert_name xs k) → (o : Ordering) → order k x ≡ o → Ascending (match_ordering o (k ∷ x ∷ xs) (x ∷ xs) (x ∷ insert_name xs k))
Ascending-insert-step k x xs a more Less e = ((e, Below-trans k x xs e a.0), a)
Ascending-insert-step k x xs a more Equal e = a
Ascending-insert-step k x xs a more Greater e = (Below-insert x k xs (reversed k x Greater e) a.0, more)

Ascending-insert : (k : List ℕ) (xs : List (List ℕ)) → Ascending xs → Ascending (insert_name xs k)
Ascending-insert k [] a = (tt, tt)
Ascending-insert k (x ∷ xs) a = Ascending-insert-step k x xs a (Ascending-insert k xs a.1) (order k x) refl

Ascending-fold : (names xs : List (List ℕ)) → Ascending xs → Ascending (fold insert_name xs names)
Ascending-fold [] xs a = a
Ascending-fold (name ∷ names) xs a = Ascending-fold names (insert_name xs name) (Ascending-insert name xs a)

Ascending-in_byte_order : (names : List (List ℕ)) → Ascending (in_byte_order names)
unfolding in_byte_order
Ascending-in_byte_order names = Ascending-fold names [] tt

-- what stands behind a name is above it
Below-has-step : (x q y : List ℕ) (ys : List (List ℕ)) → order x y ≡ Less → (has q ys ≡ true → order x q ≡ Less) → (t : Bool) → bytes_eq q y ≡ t → (t || has q ys) ≡ true → order x q ≡ Less
Below-has-step x q y ys h rest true e k = ap (order x) (bytes_eq-same q y e) ∙ h
Below-has-step x q y ys h rest false e k = rest k

Below-has : (x q : List ℕ) (ys : List (List ℕ)) → Below x ys → has q ys ≡ true → order x q ≡ Less
Below-has x q [] b h = cc
Below-has x q (y ∷ ys) b h = Below-has-step x q y ys b.0 (Below-has x q ys b.1) (bytes_eq q y) refl h

itself : (x : List ℕ) → order x x ≡ Less → ⊥
itself x h = clash (sym (is_eq-slice_cmp x x) ∙ ap is_eq h) where
  clash : bytes_eq x x ≡ false → ⊥
  clash e = let same : true ≡ false = sym (bytes_eq-refl x) ∙ e in cc

-- a name isn't among those above it
not_behind : (x : List ℕ) (xs : List (List ℕ)) → Below x xs → has x xs ≡ false
not_behind x xs b = by_has (has x xs) refl where
  by_has : (t : Bool) → has x xs ≡ t → t ≡ false
  by_has true e = absurd (itself x (Below-has x x xs b e))
  by_has false e = refl

abbrev Same : List (List ℕ) → List (List ℕ) → Type 0
Same a b = (q : List ℕ) → has q a ≡ has q b

-- the first names are one
same_first : (x : List ℕ) (xs : List (List ℕ)) (y : List ℕ) (ys : List (List ℕ)) → Below x xs → Below y ys → Same (x ∷ xs) (y ∷ ys) → x ≡ y
same_first x xs y ys b d s = by_bytes (bytes_eq x y) refl where
  x_there : has x (y ∷ ys) ≡ true
  x_there = sym (s x) ∙ ap (λ (t : Bool). t || has x xs) (bytes_eq-refl x)

  y_there : has y (x ∷ xs) ≡ true
  y_there = s y ∙ ap (λ (t : Bool). t || has y ys) (bytes_eq-refl y)

  behind : (a c : List ℕ) (cs : List (List ℕ)) (t : Bool) → bytes_eq a c ≡ t → t ≡ false → has a (c ∷ cs) ≡ true → has a cs ≡ true
  behind a c cs t e f h = sym (ap (λ (u : Bool). u || has a cs) (e ∙ f)) ∙ h

  by_bytes : (t : Bool) → bytes_eq x y ≡ t → x ≡ y
  by_bytes true e = bytes_eq-same x y e
  by_bytes false e =
      let over : order y x ≡ Less = Below-has y x ys d (behind x y ys false e refl x_there) in
      let swap : bytes_eq y x ≡ false = sym (is_eq-slice_cmp y x) ∙ ap is_eq over in
      let under : order x y ≡ Less = Below-has x y xs b (behind y x xs false swap refl y_there) in
      absurd (itself x (nat_list_cmp_total.trans x y x under over))

same_rest : (x : List ℕ) (xs ys : List (List ℕ)) → Below x xs → Below x ys → Same (x ∷ xs) (x ∷ ys) → Same xs ys
same_rest x xs ys b d s = λ q. by_bytes q (bytes_eq q x) refl (s q) where
  by_bytes : (q : List ℕ) (t : Bool) → bytes_eq q x ≡ t → (t || has q xs) ≡ (t || has q ys) → has q xs ≡ has q ys
  by_bytes q true e h =
      let at : q ≡ x = bytes_eq-same q x e in
      ap (λ (u : List ℕ). has u xs) at ∙ (not_behind x xs b ∙ (sym (not_behind x ys d) ∙ ap (λ (u : List ℕ). has u ys) (sym at)))
  by_bytes q false e h = h

none_there : (x : List ℕ) (xs : List (List ℕ)) → Same [] (x ∷ xs) → ⊥
none_there x xs s = let same : false ≡ true = s x ∙ ap (λ (t : Bool). t || has x xs) (bytes_eq-refl x) in cc

one_order : (a b : List (List ℕ)) → Ascending a → Ascending b → Same a b → a ≡ b
one_order [] [] g h s = refl
one_order [] (y ∷ ys) g h s = absurd (none_there y ys s)
one_order (x ∷ xs) [] g h s = absurd (none_there x xs (λ q. sym (s q)))
one_order (x ∷ xs) (y ∷ ys) g h s =
    let first : x ≡ y = same_first x xs y ys g.0 h.0 s in
    let P : List ℕ → Type 0 = λ z. Below z ys in
    let below : Below x ys = subst P (sym first) h.0 in
    let Q : List ℕ → Type 0 = λ z. Same (x ∷ xs) (z ∷ ys) in
    let rest : xs ≡ ys = one_order xs ys g.1 h.1 (same_rest x xs ys g.0 below (subst Q (sym first) s)) in
    ap (λ (z : List ℕ). z ∷ xs) first ∙ ap (λ (u : List (List ℕ)). y ∷ u) rest

-- lists of the same names have one folded text
pub folded-same : (names others : List (List ℕ)) → ((name : List ℕ) → has name others ≡ has name names) → folded names ≡ folded others
unfolding folded
folded-same names others s =
    ap (λ (u : List (List ℕ)). with_commas (map group_text (grouped u)))
    (one_order (in_byte_order names) (in_byte_order others) (Ascending-in_byte_order names) (Ascending-in_byte_order others) (λ q. has_in_byte_order q names ∙ (sym (s q) ∙ sym (has_in_byte_order q others))))
