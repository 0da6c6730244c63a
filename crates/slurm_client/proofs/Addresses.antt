-- How the word that names a server is cut.
use Rattle.std.proofs.Common.{◌≡◌, ℕ, ◌+◌, ◌<◌, Bool, true, false, cond, ltb, ◌&&◌, None, Some, List, [], ◌∷◌, ◌++◌, length, take, drop, get_or, refl, sym, ap, ◌∙◌, subst, arith, append_assoc, take-append-drop, codes, length-append}
use Rattle.std.specs.Cmp.Lexicographic.{pointwise, same_text}
use Rattle.std.specs.Prelude.{nat_eq}
use Rattle.std.specs.List.{position, position_or_len}
use Rattle.std.proofs.lemmas.Bool.{eqb-true}
use Rattle.std.proofs.lemmas.Bool.Decides.{nat_tests}
use Rattle.std.proofs.lemmas.List.{append_cancel_left, get_or_append_left, get_or_at, take_at, drop_at}
use Rattle.std.proofs.lemmas.List.Sums.{AllPass-from_list_all, position_or_len_is, passes_at_first, split_at_first}
use Rattle.small_texts.specs.Name.{is_name, is_name_byte}
use Rattle.slurm_client.specs.Address.{IsAddress, is_sign}

name_byte_no_sign : (b : ℕ) → is_name_byte b ≡ true → is_sign b ≡ false
name_byte_no_sign b is = grind (arith, nat_tests)

name_bytes : (a b : Bool) → a && b ≡ true → b ≡ true
name_bytes true b e = e
name_bytes false b e = absurd (cc)

no_sign : (user : List ℕ) → is_name user ≡ true → (k : ℕ) → k < length user → is_sign (get_or user k 0) ≡ false
unfolding is_name
no_sign user is k within = name_byte_no_sign _ (AllPass-from_list_all is_name_byte user (name_bytes _ _ is) k 0 within)

-- the sign behind a user stands at the user's end
sign_behind : (user digits : List ℕ) → is_name user ≡ true → position_or_len is_sign (user ++ 64 ∷ digits) ≡ length user
sign_behind user digits is =
    position_or_len_is is_sign (user ++ 64 ∷ digits) (length user) 0
    (simp length-append (omega arith))
    (λ k l. rw get_or_append_left (no_sign user is k l))
    (λ l. ap is_sign (get_or_at user 64 digits 0 (length user) refl))

below : (a b : ℕ) → a < b → ltb a b ≡ true
below a b l = grind (arith, nat_tests)

found_is : (c : Bool) (n at : ℕ) → cond c (Some n) None ≡ Some at → (c ≡ true) × (n ≡ at)
found_is true n at e = (refl, cc)
found_is false n at e = absurd (cc)

smaller : (a b : ℕ) → ltb a b ≡ true → a < b
smaller a b e = grind (arith, nat_tests)

-- a word that begins so
pub begins : (word rest : List ℕ) → pointwise nat_eq (take 7 word) (codes "--ctld=") ≡ true → rest ≡ drop 7 word
    → word ≡ codes "--ctld=" ++ rest
begins word rest same is =
    sym (take-append-drop 7 word) ∙ ap (λ t. t ++ drop 7 word) (same_text (take 7 word) (codes "--ctld=") (sym same))
    ∙ ap (λ t. codes "--ctld=" ++ t) (sym is)

-- what stands behind the front of such a word
behind : (word rest user : List ℕ) (port : ℕ) → word ≡ codes "--ctld=" ++ rest → (a : IsAddress word user port)
    → rest ≡ user ++ 64 ∷ a.digits
behind word rest user port front a =
    append_cancel_left (codes "--ctld=") rest (user ++ 64 ∷ a.digits)
    (sym front ∙ a.cut ∙ append_assoc (codes "--ctld=") user (64 ∷ a.digits))

-- such a word has the sign
pub has_sign : (word rest user : List ℕ) (port : ℕ) → word ≡ codes "--ctld=" ++ rest → position is_sign rest ≡ None
    → IsAddress word user port → ⊥
has_sign word rest user port front none a =
    let cut = behind word rest user port front a in
    let at : position_or_len is_sign rest ≡ length user = ap (position_or_len is_sign) cut ∙ sign_behind user a.digits a.is_user in
    let within : length user < length rest = omega (arith, ap length cut, length-append user (64 ∷ a.digits)) in
    let found : position is_sign rest ≡ Some (length user) = rw (at, below (length user) (length rest) within) refl in
    absurd (cc)

-- its parts are those that stand round the first sign
pub parts_told : (word rest user : List ℕ) (port at : ℕ) → word ≡ codes "--ctld=" ++ rest → position is_sign rest ≡ Some at
    → (a : IsAddress word user port) → (take at rest ≡ user) × (drop (at + 1) rest ≡ a.digits)
parts_told word rest user port at front found a =
    let cut = behind word rest user port front a in
    let first = (found_is _ _ at found).1 in
    let same : at ≡ length user = sym first ∙ ap (position_or_len is_sign) cut ∙ sign_behind user a.digits a.is_user in (
      ap (take at) cut ∙ take_at user (64 ∷ a.digits) at (sym same),
      ap (drop (at + 1)) (cut ∙ sym (append_assoc user (64 ∷ []) a.digits))
          ∙ drop_at (user ++ 64 ∷ []) a.digits (at + 1) (length-append user (64 ∷ []) ∙ omega arith),
    )

-- a text is what stands round the first sign
pub parts_make : (word rest : List ℕ) (at : ℕ) → word ≡ codes "--ctld=" ++ rest → position is_sign rest ≡ Some at
    → word ≡ codes "--ctld=" ++ take at rest ++ 64 ∷ drop (at + 1) rest
parts_make word rest at front found =
    let (test, same) = found_is _ _ at found in
    let within = smaller _ _ test in
    let cut : rest ≡ take at rest ++ 64 ∷ drop (at + 1) rest =
    subst (λ n. rest ≡ take n rest ++ 64 ∷ drop (n + 1) rest) same
    (split_at_first is_sign rest 0 within
    ∙ ap (λ b. take (position_or_len is_sign rest) rest ++ b ∷ drop (position_or_len is_sign rest + 1) rest)
    (eqb-true _ 64 (passes_at_first is_sign rest 0 within))) in
    front ∙ ap (λ t. codes "--ctld=" ++ t) cut ∙ sym (append_assoc (codes "--ctld=") (take at rest) (64 ∷ drop (at + 1) rest))
