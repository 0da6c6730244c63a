-- The numbers of users.
use Rattle.std.proofs.Common.{⊎_elim, ◌≡◌, ℕ, ◌<◌, ◌≤◌, Bool, true, false, cond, ltb, eqb, List, length, get_or, slice_get, bytes_eq, unwrap_or, Option, Some, None, option_map, refl, sym, ap, ◌∙◌, arith}
use Rattle.std.specs.List.{position, position_or_len}
use Rattle.std.proofs.lemmas.Bool.Decides.{nat_tests}
use Rattle.std.proofs.lemmas.Slice.Eq.{bytes_eq-Decides}
use Rattle.std.proofs.lemmas.List.Sums.{fails_before_first}
use Rattle.std.proofs.lemmas.Bool.{cases_lt}
use Rattle.std.proofs.lemmas.Option.{slice_get_within, get_or_from_slice_get}
use Rattle.std.proofs.lemmas.List.Quantifiers.{position-Some}
use Rattle.run_limits.specs.declared.record.AssocRecord.{AssocRecord}
use Rattle.run_limits.specs.Accounts.{is_named, is_same_user, is_same_number, are_of_one_user, number_in, user_number}

-- one that is there is found by its name
found : (assocs : List AssocRecord) (place : ℕ) (assoc : AssocRecord) → slice_get assocs place ≡ Some assoc
    → position (is_named assoc.conf.name) assocs ≡ Some (number_in assocs assoc)
found assocs place assoc is =
    let test : AssocRecord → Bool = is_named assoc.conf.name in
    let inside : place < length assocs = slice_get_within assocs place assoc is in
    let here : get_or assocs place assoc ≡ assoc = get_or_from_slice_get assocs place assoc assoc is in
    let passes : test (get_or assocs place assoc) ≡ true
    = rw here ((bytes_eq-Decides assoc.conf.name assoc.conf.name).1 refl) in
    let first : position_or_len test assocs ≤ place = ⊎_elim (λ before. absurd (differ (sym passes
    ∙ fails_before_first test assocs place assoc before)))
    (λ reached. reached) (cases_lt place (position_or_len test assocs)) in
    at (position_or_len test assocs) (length assocs) (omega (arith, first, inside)) where
      differ : true ≡ false → ⊥
      differ same = cc

      at : (n m : ℕ) → n < m → cond (ltb n m) (Some n) None ≡ Some (unwrap_or (cond (ltb n m) (Some n) None) 0)
      at n m less = grind (arith, nat_tests)

-- of one name, they have one number; of one number, they have one name
same-number : (assocs : List AssocRecord) (one other : AssocRecord) → one.conf.name ≡ other.conf.name
    → number_in assocs one ≡ number_in assocs other
same-number assocs one other same = ap (λ name. unwrap_or (position (is_named name) assocs) 0) same

same-name : (assocs : List AssocRecord) (here there : ℕ) (one other : AssocRecord) → slice_get assocs here
    ≡ Some one → slice_get assocs there ≡ Some other
    → number_in assocs one ≡ number_in assocs other → one.conf.name ≡ other.conf.name
same-name assocs here there one other is_one is_other same =
    let number : ℕ = number_in assocs one in
    let first = position-Some (is_named one.conf.name) assocs number one (found assocs here one is_one) in
    let second = position-Some (is_named other.conf.name) assocs number one (found assocs there other is_other
    ∙ ap Some (sym same)) in
    sym ((bytes_eq-Decides _ _).0 first.1) ∙ (bytes_eq-Decides _ _).0 second.1

pub numbers_tell : (assocs : List AssocRecord) (one other : ℕ)
    → are_of_one_user assocs one other ≡ is_same_number (user_number assocs one) (user_number assocs other)
unfolding are_of_one_user
numbers_tell assocs here there = at (slice_get assocs here) (slice_get assocs there) refl refl where
  both : (one other : AssocRecord) → slice_get assocs here ≡ Some one → slice_get assocs there ≡ Some other
      → bytes_eq one.conf.name other.conf.name ≡ eqb (number_in assocs one) (number_in assocs other)
  both one other is_one is_other =
      at (bytes_eq one.conf.name other.conf.name) (eqb (number_in assocs one) (number_in assocs other)) refl refl where
        at : (b c : Bool) → bytes_eq one.conf.name other.conf.name ≡ b
            → eqb (number_in assocs one) (number_in assocs other) ≡ c → b ≡ c
        at true true names numbers = refl
        at false false names numbers = refl
        at true false names numbers =
            let same = same-number assocs one other ((bytes_eq-Decides _ _).0 names) in
            grind (arith, nat_tests, same, numbers)
        at false true names numbers =
            let same : number_in assocs one ≡ number_in assocs other = grind (arith, nat_tests, numbers) in
            sym names ∙ (bytes_eq-Decides _ _).1 (same-name assocs here there one other is_one is_other same)

  at : (one other : Option AssocRecord) → slice_get assocs here ≡ one → slice_get assocs there ≡ other
      → is_same_user (option_map (λ (assoc : AssocRecord). assoc.conf.name) one) (option_map (λ
      (assoc : AssocRecord). assoc.conf.name) other)
      ≡ is_same_number (option_map (number_in assocs) one) (option_map (number_in assocs) other)
  at None None is_one is_other = refl
  at None (Some other) is_one is_other = refl
  at (Some one) None is_one is_other = refl
  at (Some one) (Some other) is_one is_other = both one other is_one is_other
