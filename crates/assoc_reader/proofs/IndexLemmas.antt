-- What is kept beside the associations, with one more of them.
use Rattle.std.proofs.Common.{ℕ, zero, suc, get_or, ◌≡◌, ◌+◌, ◌≤◌, Bool, true, false, not, cond, ◌&&◌, ◌||◌, nat_eq, List, [], ◌∷◌, ◌++◌, length, bytes_eq, Option, Some, None, refl, ap, sym, ◌∙◌, arith}
use Rattle.std.specs.List.{list_any, position}
use Rattle.std.specs.Option.{option_eq}
use Rattle.std.proofs.lemmas.List.{length_push}
use Rattle.std.proofs.lemmas.List.Sums.{sum_by_push}
use Rattle.std.proofs.lemmas.Slice.Eq.{bytes_eq-Decides}
use Rattle.plain_data.specs.Assocs.{is_same_place}
use Rattle.plain_data.specs.declared.assoc.AssocConf.{AssocConf}
use Rattle.assoc_reader.specs.Index.{is_same_user, kept_for, IsCount}
use Rattle.assoc_reader.specs.Tree.{is_account, is_user_of, account_place}
use Rattle.assoc_reader.specs.declared.counts.Counts.{Counts}
use Rattle.assoc_reader.proofs.ListLemmas.{position-push, list_any-push}

-- the place of an account, with one more account
pub account-more : (assocs : List AssocConf) (assoc : AssocConf) (name : List ℕ) → assoc.user ≡ false → account_place assoc.name assocs ≡ None
    → account_place name (assocs ++ assoc ∷ []) ≡ cond (bytes_eq assoc.name name) (Some (length assocs)) (account_place name assocs)
account-more assocs assoc name account none =
    position-push (is_account name) assocs assoc alone ∙ ap (λ (t : Bool). cond t (Some (length assocs)) (account_place name assocs)) passes where
      passes : is_account name assoc ≡ bytes_eq assoc.name name
      passes = ap (λ (u : Bool). not u && bytes_eq assoc.name name) account

      alone : is_account name assoc ≡ true → position (is_account name) assocs ≡ None
      alone e =
          let same : assoc.name ≡ name = (bytes_eq-Decides assoc.name name).0 (sym passes ∙ e) in
          rw same at none

-- and with one more user
pub account-same : (assocs : List AssocConf) (assoc : AssocConf) (name : List ℕ) → assoc.user ≡ true → account_place name (assocs ++ assoc ∷ []) ≡ account_place name assocs
account-same assocs assoc name user =
    position-push (is_account name) assocs assoc (λ e. never e) ∙ ap (λ (t : Bool). cond t (Some (length assocs)) (account_place name assocs)) fails where
      fails : is_account name assoc ≡ false
      fails = ap (λ (u : Bool). not u && bytes_eq assoc.name name) user

      never : is_account name assoc ≡ true → position (is_account name) assocs ≡ None
      never e = cc

same-places : (one other : Option ℕ) → option_eq nat_eq one other ≡ is_same_place one other
same-places None None = refl
same-places None (Some q) = refl
same-places (Some p) None = refl
same-places (Some p) (Some q) = refl

-- the users, with one more
pub user-more : (assocs : List AssocConf) (assoc : AssocConf) (parent : Option ℕ) (name : List ℕ) → assoc.user ≡ true
    → list_any (is_user_of parent name) (assocs ++ assoc ∷ []) ≡ cond (is_same_user (assoc.parent, assoc.name) (parent, name)) true (list_any (is_user_of parent name) assocs)
user-more assocs assoc parent name user =
    list_any-push (is_user_of parent name) assocs assoc ∙ (ap (λ (t : Bool). list_any (is_user_of parent name) assocs || t) passes ∙ by_tests (list_any (is_user_of parent name) assocs) (is_same_user (assoc.parent, assoc.name) (parent, name))) where
      passes : is_user_of parent name assoc ≡ is_same_user (assoc.parent, assoc.name) (parent, name)
      passes = rw (user, same-places assoc.parent parent) refl

      by_tests : (some here : Bool) → (some || here) ≡ cond here true some
      by_tests true true = refl
      by_tests true false = refl
      by_tests false true = refl
      by_tests false false = refl

-- and with one more account
pub user-same : (assocs : List AssocConf) (assoc : AssocConf) (parent : Option ℕ) (name : List ℕ) → assoc.user ≡ false → list_any (is_user_of parent name) (assocs ++ assoc ∷ []) ≡ list_any (is_user_of parent name) assocs
user-same assocs assoc parent name account =
    list_any-push (is_user_of parent name) assocs assoc ∙ (ap (λ (t : Bool). list_any (is_user_of parent name) assocs || t) fails ∙ or-false (list_any (is_user_of parent name) assocs)) where
      fails : is_user_of parent name assoc ≡ false
      fails = rw account refl

      or-false : (b : Bool) → (b || false) ≡ b
      or-false true = refl
      or-false false = refl

-- room for the children of one more, of which there are none yet
none-behind : (numbers : List ℕ) (place : ℕ) → get_or (numbers ++ 0 ∷ []) place 0 ≡ get_or numbers place 0
none-behind [] zero = refl
none-behind [] (suc place) = refl
none-behind (n ∷ numbers) zero = refl
none-behind (n ∷ numbers) (suc place) = none-behind numbers place

pub count-grown : (before after : Counts) (grows : Bool) (assocs : List AssocConf) → after.users ≡ before.users → after.of_root ≡ before.of_root
    → after.of_each.items ≡ cond grows (before.of_each.items ++ 0 ∷ []) before.of_each.items → IsCount before assocs → IsCount after assocs
count-grown before after grows assocs users of_root of_each is = record {
  users = users ∙ is.users;
  children = λ parent. children parent ∙ is.children parent;
  room = rw of_each (longer grows is.room);
} where
  each : (grows : Bool) (place : ℕ) → get_or (cond grows (before.of_each.items ++ 0 ∷ []) before.of_each.items) place 0 ≡ get_or before.of_each.items place 0
  each true place = none-behind before.of_each.items place
  each false place = refl

  children : (parent : Option ℕ) → kept_for parent after ≡ kept_for parent before
  children None = of_root
  children (Some place) = rw of_each (each grows place)

  longer : (grows : Bool) → length assocs ≤ length before.of_each.items → length assocs ≤ length (cond grows (before.of_each.items ++ 0 ∷ []) before.of_each.items)
  longer true h = rw (length_push before.of_each.items 0) (omega arith)
  longer false h = h

-- the numbers, with one more
pub count-more : (before after : Counts) (assocs : List AssocConf) (assoc : AssocConf) → IsCount before assocs
    → after.users ≡ before.users + cond assoc.user 1 0
    → ((parent : Option ℕ) → kept_for parent after ≡ kept_for parent before + cond (is_same_place assoc.parent parent) 1 0)
    → length assocs + 1 ≤ length after.of_each.items → IsCount after (assocs ++ assoc ∷ [])
count-more before after assocs assoc is users children room = record {
  users = users ∙ (ap (λ (n : ℕ). n + cond assoc.user 1 0) is.users ∙ sym (sum_by_push (λ (one : AssocConf). cond one.user 1 0) assocs assoc));
  children = λ parent. children parent ∙ (ap (λ (n : ℕ). n + cond (is_same_place assoc.parent parent) 1 0) (is.children parent) ∙ sym (sum_by_push (λ (one : AssocConf). cond (is_same_place one.parent parent) 1 0) assocs assoc));
  room = rw (length_push assocs assoc) room;
}
