-- The items of a folded text are the texts of its groups.
use Rattle.std.proofs.Common.{ℕ, ◌≡◌, ◌&&◌, ◌||◌, ◌==◌, Bool, true, false, List, [], ◌∷◌, ◌++◌, flat_map, sym, refl, ap, ◌∙◌, subst, eqb-true}
use Rattle.std.specs.Char.{is_ascii_digit}
use Rattle.std.specs.List.{list_all}
use Rattle.std.proofs.lemmas.List.{append-nil, append_assoc}
use Rattle.host_lists.specs.Hosts.{prepend}
use Rattle.small_texts.specs.Name.{is_name, is_name_byte}
use Rattle.host_lists.specs.Hosts.{items_from}
use Rattle.host_lists.specs.Folding.{with_commas}
use Rattle.host_lists.proofs.ItemLemmas.{prepend-nil}
use Rattle.host_lists.proofs.Both.{prepend-prepend, both-left, both-right}

-- a byte that passes a test which another fails
pub other_byte : (p : ℕ → Bool) (b c : ℕ) → p b ≡ true → p c ≡ false → (b == c) ≡ false
other_byte p b c h k = by_test (b == c) refl where
  by_test : (t : Bool) → (b == c) ≡ t → t ≡ false
  by_test true e = subst (λ (x : ℕ). p x ≡ true → true ≡ false) (sym (eqb-true b c e)) (λ (g : p c ≡ true). sym g ∙ k) h
  by_test false e = refl

-- a text that goes into one item whole
abbrev pub Passes : List ℕ → Type 0
Passes text = (rest : List ℕ) → items_from false (text ++ rest) ≡ prepend text (items_from false rest)

pass_plain : (text rest : List ℕ) → list_all is_name_byte text ≡ true → items_from false (text ++ rest) ≡ prepend text (items_from false rest)
pass_plain [] rest h = sym (prepend-nil (items_from false rest))
pass_plain (b ∷ text) rest h =
    let here : is_name_byte b ≡ true = both-left (is_name_byte b) (list_all is_name_byte text) h in
    let comma : (b == 44) ≡ false = other_byte is_name_byte b 44 here refl in
    let opening : (b == 91) ≡ false = other_byte is_name_byte b 91 here refl in
    let closing : (b == 93) ≡ false = other_byte is_name_byte b 93 here refl in
    let more : items_from false (text ++ rest) ≡ prepend text (items_from false rest) = pass_plain text rest (both-right (is_name_byte b) (list_all is_name_byte text) h) in
    simp (comma, opening, closing, more) (prepend-prepend (b ∷ []) text (items_from false rest))

-- what stands in a bracket: digits, dashes (45) and commas (44)
abbrev pub is_run_byte : ℕ → Bool
is_run_byte b = is_ascii_digit b || b == 45

abbrev pub is_bracket_byte : ℕ → Bool
is_bracket_byte b = is_run_byte b || b == 44

no_and : (t : Bool) → (t && false) ≡ false
no_and true = refl
no_and false = refl

pass_inside : (text rest : List ℕ) → list_all is_bracket_byte text ≡ true → items_from true (text ++ 93 ∷ rest) ≡ prepend (text ++ 93 ∷ []) (items_from false rest)
pass_inside [] rest h = refl
pass_inside (b ∷ text) rest h =
    let here : is_bracket_byte b ≡ true = both-left (is_bracket_byte b) (list_all is_bracket_byte text) h in
    let opening : (b == 91) ≡ false = other_byte is_bracket_byte b 91 here refl in
    let closing : (b == 93) ≡ false = other_byte is_bracket_byte b 93 here refl in
    let more : items_from true (text ++ 93 ∷ rest) ≡ prepend (text ++ 93 ∷ []) (items_from false rest) = pass_inside text rest (both-right (is_bracket_byte b) (list_all is_bracket_byte text) h) in
    simp (no_and, opening, closing, more) (prepend-prepend (b ∷ []) (text ++ 93 ∷ []) (items_from false rest))

pub Passes-name : (name : List ℕ) → is_name name ≡ true → Passes name
unfolding is_name
Passes-name name h = λ rest. pass_plain name rest (both-right _ (list_all is_name_byte name) h)

pub Passes-bracket : (prefix inside : List ℕ) → list_all is_name_byte prefix ≡ true → list_all is_bracket_byte inside ≡ true → Passes (prefix ++ 91 ∷ inside ++ 93 ∷ [])
Passes-bracket prefix inside h k = λ rest.
    let grouped : (prefix ++ 91 ∷ inside ++ 93 ∷ []) ++ rest ≡ prefix ++ (91 ∷ (inside ++ 93 ∷ rest)) = simp append_assoc in
    let whole : prefix ++ 91 ∷ inside ++ 93 ∷ [] ≡ prefix ++ (91 ∷ (inside ++ 93 ∷ [])) = simp append_assoc in
    rw (grouped, whole)
    (pass_plain prefix (91 ∷ (inside ++ 93 ∷ rest)) h
    ∙ ap (prepend prefix) (ap (prepend (91 ∷ [])) (pass_inside inside rest k) ∙ prepend-prepend (91 ∷ []) (inside ++ 93 ∷ []) (items_from false rest))
    ∙ prepend-prepend prefix (91 ∷ (inside ++ 93 ∷ [])) (items_from false rest))

abbrev pub AllPasses : List (List ℕ) → Type 0
AllPasses [] = Unit {0}
AllPasses (text ∷ texts) = Passes text × AllPasses texts

items-others : (texts : List (List ℕ)) → AllPasses texts → items_from false (flat_map (λ t. 44 ∷ t) texts) ≡ [] ∷ texts
items-others [] h = refl
items-others (text ∷ texts) h =
    ap (λ (u : List (List ℕ)). [] ∷ u) (h.0 (flat_map (λ t. 44 ∷ t) texts) ∙ (ap (prepend text) (items-others texts h.1) ∙ ap (λ (t : List ℕ). t ∷ texts) (append-nil text)))

pub items_with_commas : (text : List ℕ) (texts : List (List ℕ)) → AllPasses (text ∷ texts) → items_from false (with_commas (text ∷ texts)) ≡ text ∷ texts
items_with_commas text texts h =
    h.0 (flat_map (λ t. 44 ∷ t) texts) ∙ (ap (prepend text) (items-others texts h.1) ∙ ap (λ (t : List ℕ). t ∷ texts) (append-nil text))
