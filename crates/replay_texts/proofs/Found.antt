-- What is found in a list, member by member.
use Rattle.std.proofs.Common.{◌≡◌, ℕ, ◌+◌, ◌<◌, List, [], ◌∷◌, ◌++◌, length, take, get_or, Option, Some, None, refl, ap, ◌∙◌, sym}
use Rattle.std.specs.List.{cons_option, filter_map}
use Rattle.std.specs.Prelude.{option_to_list}
use Rattle.std.proofs.lemmas.List.{take_more}
use Rattle.std.proofs.lemmas.List.Elements.{filter_map-append}

cons_is : {Y : Type 0} (found : Option Y) → cons_option found [] ≡ option_to_list found
cons_is None = refl
cons_is (Some y) = refl

filter_map_at : {X Y : Type 0} (f : X → Option Y) (xs : List X) (i : ℕ) (d : X) → i < length xs
    → filter_map f (take (i + 1) xs) ≡ filter_map f (take i xs) ++ option_to_list (f (get_or xs i d))
filter_map_at f xs i d within =
    ap (filter_map f) (take_more xs i d within) ∙ filter_map-append f (take i xs) (get_or xs i d ∷ [])
    ∙ ap (λ ys. filter_map f (take i xs) ++ ys) (cons_is (f (get_or xs i d)))

filter_map_more : {X Y : Type 0} (f : X → Option Y) (xs : List X) (i : ℕ) (x : X) → i < length xs → x ≡ get_or xs i x
    → filter_map f (take (i + 1) xs) ≡ filter_map f (take i xs) ++ option_to_list (f x)
filter_map_more f xs i x within is =
    filter_map_at f xs i x within ∙ ap (λ y. filter_map f (take i xs) ++ option_to_list (f y)) (sym is)

-- one member more
pub one_more : {X Y : Type 0} (f : X → Option Y) (xs : List X) (i : ℕ) (x : X) (found : Option Y) (before after : List Y)
    → i < length xs → x ≡ get_or xs i x → found ≡ f x → after ≡ before ++ option_to_list found
    → before ≡ filter_map f (take i xs) → after ≡ filter_map f (take (i + 1) xs)
one_more f xs i x found before after within is found_is after_is before_is =
    after_is ∙ ap (λ b. b ++ option_to_list found) before_is
    ∙ ap (λ o. filter_map f (take i xs) ++ option_to_list o) found_is ∙ sym (filter_map_more f xs i x within is)
