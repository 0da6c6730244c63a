-- Users' associations, from the first of each user on.
use Rattle.std.proofs.Common.{◌≡◌, ℕ, ◌+◌, ◌<◌, false, List, [], ◌∷◌, length, drop, get_or, Some, None, refl, arith}
use Rattle.std.specs.Prelude.{option_map}
use Rattle.std.specs.List.{position}
use Rattle.std.proofs.lemmas.List.{get_or-take, length-take-le}
use Rattle.std.proofs.lemmas.List.Quantifiers.{position-Some}
use Rattle.run_limits.specs.declared.record.AssocRecord.{AssocRecord}
use Rattle.run_limits.specs.Accounts.{is_of_user, is_users_in, place_in}
use Rattle.ctl_restore.proofs.Finding.{none-passes}
use Rattle.ctl_restore.proofs.Positions.{none-found-at, position-past}

-- whoever isn't the user's isn't the user's of an account
not-his : (assocs : List AssocRecord) (user account : List ℕ) (assoc : AssocRecord) → is_of_user user assoc ≡ false
    → is_users_in assocs user account assoc ≡ false
not-his assocs user account assoc other = rw other refl

pub no-user : (assocs : List AssocRecord) (user account : List ℕ) → position (is_of_user user) assocs ≡ None
    → place_in assocs user account ≡ None
no-user assocs user account none =
    none-found-at (is_users_in assocs user account) assocs
    (λ k d inside. not-his assocs user account (get_or assocs k d) (none-passes (is_of_user user) assocs none k d inside))

pub from-first : (assocs : List AssocRecord) (user account : List ℕ) (first : ℕ)
    → position (is_of_user user) assocs ≡ Some first
    → place_in assocs user account
    ≡ option_map (λ k. first + k) (position (is_users_in assocs user account) (drop first assocs))
from-first assocs user account first is =
    position-past (is_users_in assocs user account) first assocs (omega (arith, within assocs is))
    (λ k d inside.
    let low : k < first = omega (arith, inside, length-take-le first assocs (omega (arith, within assocs is))) in
    rw (get_or-take first assocs k d low)
    (not-his assocs user account (get_or assocs k d) (before k d low)))
  where
    within : (all : List AssocRecord) → position (is_of_user user) all ≡ Some first → first < length all
    within [] is = absurd cc
    within (x ∷ xs) is = (position-Some (is_of_user user) (x ∷ xs) first x is).0

    before : (k : ℕ) (d : AssocRecord) → k < first → is_of_user user (get_or assocs k d) ≡ false
    before k d low = (position-Some (is_of_user user) assocs first d is).2 k low
