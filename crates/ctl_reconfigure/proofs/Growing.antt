-- Lists that grow by what one more member of another gives.
use Rattle.std.proofs.Common.{◌≡◌, ℕ, ◌+◌, ◌<◌, Bool, true, false, cond, ◌||◌, List, [], ◌∷◌, ◌++◌, length, take, filter, flat_map, get_or, append_assoc, bytes_eq, Option, refl, sym, ap, ◌∙◌, arith}
use Rattle.std.specs.Prelude.{filter_map}
use Rattle.std.specs.List.{list_any}
use Rattle.std.specs.Option.{option_to_list}
use Rattle.std.proofs.lemmas.List.{append-nil, take_more}
use Rattle.std.proofs.lemmas.List.Concat.{flat_map-append}
use Rattle.std.proofs.lemmas.List.Elements.{filter-append}
use Rattle.std.proofs.lemmas.List.Folds.{list_any-append}
use Rattle.list_lemmas.proofs.Maps.{filter_map-more}
use Rattle.node_state.specs.Reservations.{has}
use Rattle.ctl_reconfigure.proofs.Anys.{or_turn}

-- those that pass, behind others
pub filter-more : {X : Type 0} (p : X → Bool) (xs : List X) (k : ℕ) (x : X) (first before now : List X) → k < length xs
    → x ≡ get_or xs k x → before ≡ first ++ filter p (take k xs) → now ≡ before ++ cond (p x) (x ∷ []) []
    → now ≡ first ++ filter p (take (k + 1) xs)
filter-more p xs k x first before now inside is was after =
    let more : filter p (take (k + 1) xs) ≡ filter p (take k xs) ++ cond (p x) (x ∷ []) [] =
    ap (filter p) (take_more xs k x inside) ∙ filter-append p (take k xs) (get_or xs k x ∷ [])
    ∙ ap (λ y. filter p (take k xs) ++ cond (p y) (y ∷ []) []) (sym is) in
    let right : (first ++ filter p (take k xs)) ++ cond (p x) (x ∷ []) [] ≡ first ++ (filter p (take k xs) ++ cond (p x) (x ∷ []) []) =
    rw append_assoc refl in
    after ∙ ap (λ before. before ++ cond (p x) (x ∷ []) []) was ∙ right ∙ ap (λ rest. first ++ rest) (sym more)

-- what each gives, behind others
pub given-more : {X Y : Type 0} (h : X → Option Y) (xs : List X) (k : ℕ) (x : X) (found : Option Y) (first before now : List Y)
    → k < length xs → x ≡ get_or xs k x → found ≡ h x → before ≡ first ++ filter_map h (take k xs)
    → now ≡ before ++ option_to_list found → now ≡ first ++ filter_map h (take (k + 1) xs)
given-more h xs k x found first before now inside is gives was after =
    after ∙ ap (λ before. before ++ option_to_list found) was
    ∙ filter_map-more h xs k x first found inside (gives ∙ ap h is)

-- whether a name is among those that each gives, or was there before
pub among-more : {X : Type 0} (h : X → Option (List ℕ)) (xs : List X) (k : ℕ) (x : X) (name : List ℕ) (first was now : Bool)
    → k < length xs → x ≡ get_or xs k x → was ≡ (first || has (filter_map h (take k xs)) name)
    → now ≡ (was || has (option_to_list (h x)) name) → now ≡ (first || has (filter_map h (take (k + 1) xs)) name)
among-more h xs k x name first was now inside is before after =
    let more : has (filter_map h (take (k + 1) xs)) name
    ≡ (has (filter_map h (take k xs)) name || has (option_to_list (h x)) name) =
    ap (λ names. has names name) (sym (filter_map-more h xs k x [] (h x) inside (ap h is)))
    ∙ list_any-append (bytes_eq name) (filter_map h (take k xs)) (option_to_list (h x)) in
    after ∙ ap (λ b. b || has (option_to_list (h x)) name) before
    ∙ or_turn first (has (filter_map h (take k xs)) name) (has (option_to_list (h x)) name)
    ∙ ap (λ b. first || b) (sym more)

-- whether a name is among those of joined lists
pub joined-more : {X : Type 0} (g : X → List (List ℕ)) (xs : List X) (k : ℕ) (x : X) (name : List ℕ) (was now : Bool)
    → k < length xs → x ≡ get_or xs k x → was ≡ has (flat_map g (take k xs)) name → now ≡ (was || has (g x) name)
    → now ≡ has (flat_map g (take (k + 1) xs)) name
joined-more g xs k x name was now inside is before after =
    let more : flat_map g (take (k + 1) xs) ≡ flat_map g (take k xs) ++ g x =
    ap (flat_map g) (take_more xs k x inside ∙ ap (λ one. take k xs ++ one ∷ []) (sym is))
    ∙ flat_map-append g (take k xs) (x ∷ []) ∙ ap (λ last. flat_map g (take k xs) ++ last) (append-nil (g x)) in
    after ∙ ap (λ b. b || has (g x) name) before ∙ sym (list_any-append (bytes_eq name) (flat_map g (take k xs)) (g x))
    ∙ ap (λ names. has names name) (sym more)

-- two that were put behind nothing
pub two-joined : {X : Type 0} (start kept all one other : List X) → start ≡ [] → kept ≡ start ++ one → all ≡ kept ++ other
    → all ≡ one ++ other
two-joined start kept all one other none first second =
    second ∙ ap (λ before. before ++ other) (first ∙ ap (λ before. before ++ one) none)
