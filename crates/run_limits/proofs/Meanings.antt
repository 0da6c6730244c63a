-- What is meant by names is there.
use Rattle.std.proofs.Common.{◌≡◌, ℕ, ◌<◌, Bool, true, List, [], ◌∷◌, length, unwrap_or, Option, Some, None, refl, ◌∙◌, ap, subst, arith, inl, inr}
use Rattle.std.specs.Prelude.{bytes_eq, codes, filter_map, option_and_then, option_map, position, slice_get}
use Rattle.std.specs.List.{cons_option}
use Rattle.std.specs.Option.{option_or}
use Rattle.std.proofs.lemmas.Bool.{and_parts, cases_Bool}
use Rattle.std.proofs.lemmas.List.Quantifiers.{position-Some}
use Rattle.std.proofs.lemmas.Option.{slice_get_cases}
use Rattle.run_limits.specs.declared.record.AssocRecord.{AssocRecord}
use Rattle.run_limits.specs.declared.record.QosRecord.{QosRecord}
use Rattle.run_limits.specs.Accounts.{account_of, default_by, is_of_user, is_users_in, place_in, place_meant, qos_meant}

some-same : {X : Type 0} (one other : X) → Some one ≡ Some other → one ≡ other
some-same one other same = ap (λ some. unwrap_or some one) same

-- the first place that passes a test passes every test that follows from it
at-position : {X : Type 0} (p test : X → Bool) (xs : List X) (place : ℕ) → ((x : X) → p x ≡ true → test x ≡ true)
    → position p xs ≡ Some place → option_map test (slice_get xs place) ≡ Some true
at-position p test [] place implies is = absurd (let never = is in cc)
at-position p test (first ∷ xs) place implies is = elim (slice_get_cases (first ∷ xs) place).1 [
  | inl (x, within, there, same) ↦
      let passes = (position-Some p (first ∷ xs) place x is).1 in
      rw there (ap Some (implies x (rw same at passes)))
  | inr (past, none) ↦ absurd (omega (arith, past, (position-Some p (first ∷ xs) place first is).0))
]

within-position : {X : Type 0} (p : X → Bool) (xs : List X) (place : ℕ) → position p xs ≡ Some place
    → place < length xs
within-position p [] place is = absurd (let never = is in cc)
within-position p (first ∷ xs) place is = (position-Some p (first ∷ xs) place first is).0

-- the first of what is made of members is made of one
first-made : {X Y : Type 0} (made : X → Option Y) (P : Y → Type 0) → ((x : X) (y : Y) → made x ≡ Some y → P y)
    → (xs : List X) (y : Y) → slice_get (filter_map made xs) 0 ≡ Some y → P y
first-made made P each [] y is = absurd (let never = is in cc)
first-made {X} {Y} made P each (x ∷ xs) y is = by (made x) refl (first-made made P each xs y) is
  where
    by : (one : Option Y) → made x ≡ one → (slice_get (filter_map made xs) 0 ≡ Some y → P y)
        → slice_get (cons_option one (filter_map made xs)) 0 ≡ Some y → P y
    by None none later there = later there
    by (Some z) some later there = subst P (some-same z y there) (each x z some)

abbrev IsHis : List AssocRecord → List ℕ → ℕ → Type 0
IsHis assocs user place = option_map (is_of_user user) (slice_get assocs place) ≡ Some true

his-in : (assocs : List AssocRecord) (user account : List ℕ) (place : ℕ)
    → place_in assocs user account ≡ Some place → IsHis assocs user place
his-in assocs user account place =
    at-position (is_users_in assocs user account) (is_of_user user) assocs place
    (λ one both. (and_parts (is_of_user user one) (bytes_eq (account_of assocs one) account) both).0)

his-default : (assocs : List AssocRecord) (user : List ℕ) (assoc : AssocRecord) (place : ℕ)
    → default_by assocs user assoc ≡ Some place → IsHis assocs user place
his-default assocs user assoc place is = elim (cases_Bool (is_of_user user assoc)) [
  | inl his ↦ by assoc.conf.default_account (rw his at is)
  | inr other ↦ absurd (let never = rw other at is in cc)
]
  where
    by : (named : Option (List ℕ)) → option_and_then (place_in assocs user) named ≡ Some place
        → IsHis assocs user place
    by None never = absurd (let no = never in cc)
    by (Some account) there = his-in assocs user account place there

pub meant-his : (assocs : List AssocRecord) (user : List ℕ) (account : Option (List ℕ)) (place : ℕ)
    → place_meant assocs user account ≡ Some place → IsHis assocs user place
unfolding place_meant
meant-his assocs user (Some account) place is = his-in assocs user account place is
meant-his assocs user None place is =
    by (slice_get (filter_map (default_by assocs user) assocs) 0) refl is
  where
    by : (first : Option ℕ) → slice_get (filter_map (default_by assocs user) assocs) 0 ≡ first
        → option_or first (position (is_of_user user) assocs) ≡ Some place → IsHis assocs user place
    by None none there = at-position (is_of_user user) (is_of_user user) assocs place (λ one his. his) there
    by (Some other) some there =
        first-made (default_by assocs user) (IsHis assocs user) (his-default assocs user) assocs place
        (some ∙ ap Some (some-same other place there))

pub meant-there : (qos : List QosRecord) (name : Option (List ℕ)) (place : ℕ) → qos_meant qos name ≡ Some place
    → place < length qos
meant-there qos name place =
    within-position (λ (one : QosRecord). bytes_eq one.conf.name (unwrap_or name (codes "normal"))) qos place
