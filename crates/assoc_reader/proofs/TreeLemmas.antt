-- One more association behind the others, whose name has no fault.
use Rattle.std.proofs.Common.{ℕ, ◌≡◌, ◌≢◌, ◌+◌, ◌<◌, ◌≤◌, Bool, true, false, not, cond, ◌&&◌, ◌||◌, nat_le, nat_eq, if◌then◌else◌, List, [], ◌∷◌, ◌++◌, length, get_or, codes, bytes_eq, All, AllPairs, IfSome, is_some, Option, Some, None, option_map, ◌⊎◌, inl, inr, refl, ap, arith}
use Rattle.std.specs.List.{list_any, position, slice_get}
use Rattle.std.proofs.lemmas.Bool.{cases_order}
use Rattle.std.proofs.lemmas.Bool.Decides.{nat_tests}
use Rattle.std.proofs.lemmas.List.{length_push, length-map, map-append}
use Rattle.std.proofs.lemmas.List.Elements.{All-push}
use Rattle.std.proofs.lemmas.List.Sums.{sum_by_push}
use Rattle.std.proofs.lemmas.List.Quantifiers.{all_pairs_push, position-Some}
use Rattle.std.proofs.lemmas.Option.{slice_get-map, slice_get-get_or}
use Rattle.std.proofs.lemmas.Slice.Eq.{bytes_eq-Decides}
use Rattle.plain_data.specs.Assocs.{StandsUnder, AreNamedApart, is_same_place, parents_in, greatest_depth}
use Rattle.plain_data.specs.declared.assoc.AssocConf.{AssocConf}
use Rattle.assoc_reader.specs.declared.assoc_words.AssocWords.{AssocWords}
use Rattle.assoc_reader.specs.declared.refusal.AssocKind.TheVariants.{TwiceNamed, OverLimit}
use Rattle.assoc_reader.specs.Tree.{TreeView, is_root, is_account, is_user_of, account_place, parent_named, is_named, users_in, children_of, depth_of, is_full, name_fault, assoc_conf, with_assoc, IsAccountAt, IsTree}
use Rattle.assoc_reader.proofs.DepthLemmas.{Rises, Within, way_up-push}
use Rattle.assoc_reader.proofs.ListLemmas.{slice_get-before, slice_get-last, slice_get-behind, fails-at, none-passes}

-- a name without a fault is new, and there is room for it
no-fault : (named full : Bool) → (if named then Some TwiceNamed else (if full then Some OverLimit else None)) ≡ None → (named ≡ false) × (full ≡ false)
no-fault true full e = cc
no-fault false true e = cc
no-fault false false e = (refl, refl)

pub new-name : (tree : TreeView) (user : Bool) (name : List ℕ) → name_fault tree user name ≡ None → (is_named tree user name ≡ false) × (is_full tree user ≡ false)
unfolding name_fault
new-name tree user name e = no-fault (is_named tree user name) (is_full tree user) e

-- an account that isn't named is not root, and has no place
new-account : (tree : TreeView) (name : List ℕ) → is_named tree false name ≡ false → (is_root name ≡ false) × (account_place name tree.assocs ≡ None)
unfolding is_named parent_named
new-account tree name e = by_root (is_root name) (account_place name tree.assocs) refl e where
  by_root : (root : Bool) (place : Option ℕ) → account_place name tree.assocs ≡ place → is_some (if root then Some None else option_map Some place) ≡ false → (root ≡ false) × (account_place name tree.assocs ≡ None)
  by_root true place is e = cc
  by_root false (Some p) is e = cc
  by_root false None is e = (refl, is)

pub account-place-none : (tree : TreeView) (name : List ℕ) → name_fault tree false name ≡ None → account_place name tree.assocs ≡ None
account-place-none tree name e = (new-account tree name (new-name tree false name e).0).1

-- what there is room for
room : (user : Bool) (users children depth most : ℕ) → ((user && nat_le 4096 users) || (nat_le 256 children || nat_le most depth)) ≡ false → (user ≡ true → users < 4096) × (children < 256) × (depth < most)
room true users children depth most e = (λ yes. grind (arith, nat_tests), grind (arith, nat_tests), grind (arith, nat_tests))
room false users children depth most e = (λ yes. cc, grind (arith, nat_tests), grind (arith, nat_tests))

pub has-room : (tree : TreeView) (user : Bool) (name : List ℕ) → name_fault tree user name ≡ None → (user ≡ true → users_in tree.assocs < 4096) × (children_of tree.parent tree.assocs < 256) × (depth_of tree.parent tree.assocs < greatest_depth)
unfolding is_full
has-room tree user name e = room user (users_in tree.assocs) (children_of tree.parent tree.assocs) (depth_of tree.parent tree.assocs) greatest_depth (new-name tree user name e).1

-- the same place, or none
same-place : (one other : Option ℕ) → one ≡ other → is_same_place one other ≡ true
same-place None None e = refl
same-place None (Some q) e = cc
same-place (Some p) None e = cc
same-place (Some p) (Some q) e = eq-true p q e where
  eq-true : (p q : ℕ) → Some p ≡ Some q → nat_eq p q ≡ true
  eq-true p q e = let same : p ≡ q = cc in grind (arith, nat_tests)

pub same-place-is : (one other : Option ℕ) → is_same_place one other ≡ true → one ≡ other
same-place-is None None e = refl
same-place-is None (Some q) e = cc
same-place-is (Some p) None e = cc
same-place-is (Some p) (Some q) e = ap Some (is p q e) where
  is : (p q : ℕ) → nat_eq p q ≡ true → p ≡ q
  is p q e = grind (arith, nat_tests)

-- a new account's name isn't an earlier account's
apart-accounts : (assocs : List AssocConf) (name : List ℕ) (k : ℕ) (d : AssocConf) → account_place name assocs ≡ None → k < length assocs → (get_or assocs k d).user ≡ false → (get_or assocs k d).name ≢ name
apart-accounts assocs name k d none within account same =
    let fails : is_account name (get_or assocs k d) ≡ false = fails-at (is_account name) assocs k d (none-passes (is_account name) assocs none) within in
    let is : bytes_eq (get_or assocs k d).name name ≡ true = (bytes_eq-Decides (get_or assocs k d).name name).1 same in
    both (get_or assocs k d).user (bytes_eq (get_or assocs k d).name name) account is fails where
      both : (a b : Bool) → a ≡ false → b ≡ true → (not a && b) ≡ false → ⊥
      both true b e f h = cc
      both false true e f h = cc
      both false false e f h = cc

-- a new user's name isn't that of an earlier one of the account
apart-users : (assocs : List AssocConf) (parent : Option ℕ) (name : List ℕ) (k : ℕ) (d : AssocConf) → list_any (is_user_of parent name) assocs ≡ false → k < length assocs → (get_or assocs k d).user ≡ true → (get_or assocs k d).parent ≡ parent → (get_or assocs k d).name ≢ name
apart-users assocs parent name k d none within user under same =
    let fails : is_user_of parent name (get_or assocs k d) ≡ false = fails-at (is_user_of parent name) assocs k d none within in
    let is : bytes_eq (get_or assocs k d).name name ≡ true = (bytes_eq-Decides (get_or assocs k d).name name).1 same in
    let here : is_same_place (get_or assocs k d).parent parent ≡ true = same-place (get_or assocs k d).parent parent under in
    both (get_or assocs k d).user (is_same_place (get_or assocs k d).parent parent) (bytes_eq (get_or assocs k d).name name) user here is fails where
      both : (a b c : Bool) → a ≡ true → b ≡ true → c ≡ true → (a && (b && c)) ≡ false → ⊥
      both true true true e f g h = cc
      both true true false e f g h = cc
      both true false c e f g h = cc
      both false b c e f g h = cc

apart-push : (tree : TreeView) (user : Bool) (name : List ℕ) (words : AssocWords) → is_named tree user name ≡ false → AllPairs AreNamedApart tree.assocs → AllPairs AreNamedApart (tree.assocs ++ assoc_conf tree.parent user name words ∷ [])
unfolding assoc_conf is_named
apart-push tree true name words new apart =
    all_pairs_push AreNamedApart tree.assocs _ apart (λ k d within. record {
      accounts = λ one other. cc;
      users = λ one other under. apart-users tree.assocs tree.parent name k d new within one under;
    })
apart-push tree false name words new apart =
    all_pairs_push AreNamedApart tree.assocs _ apart (λ k d within. record {
      accounts = λ one other. apart-accounts tree.assocs name k d (new-account tree name new).1 within one;
      users = λ one other. cc;
    })

no_root-push : (tree : TreeView) (user : Bool) (name : List ℕ) (words : AssocWords) → is_named tree user name ≡ false → All (λ (assoc : AssocConf). assoc.user ≡ false → assoc.name ≢ codes "root") tree.assocs → All (λ (assoc : AssocConf). assoc.user ≡ false → assoc.name ≢ codes "root") (tree.assocs ++ assoc_conf tree.parent user name words ∷ [])
unfolding assoc_conf
no_root-push tree user name words new none =
    All-push (λ (assoc : AssocConf). assoc.user ≡ false → assoc.name ≢ codes "root") tree.assocs _ none (by_kind user new) where
      by_kind : (user : Bool) → is_named tree user name ≡ false → user ≡ false → name ≢ codes "root"
      by_kind true new account = cc
      by_kind false new account = λ same.
          let root : is_root name ≡ true = (bytes_eq-Decides name (codes "root")).1 same in
          let other : is_root name ≡ false = (new-account tree name new).0 in
          cc

few_users-push : (tree : TreeView) (user : Bool) (name : List ℕ) (words : AssocWords) → (user ≡ true → users_in tree.assocs < 4096) → users_in tree.assocs ≤ 4096 → users_in (tree.assocs ++ assoc_conf tree.parent user name words ∷ []) ≤ 4096
unfolding assoc_conf
few_users-push tree user name words less few =
    rw (sum_by_push (λ (assoc : AssocConf). cond assoc.user 1 0) tree.assocs (assoc_conf tree.parent user name words)) (by_kind user less) where
      by_kind : (user : Bool) → (user ≡ true → users_in tree.assocs < 4096) → users_in tree.assocs + cond user 1 0 ≤ 4096
      by_kind true less = omega (arith, less refl)
      by_kind false less = omega arith

few_children-push : (tree : TreeView) (user : Bool) (name : List ℕ) (words : AssocWords) → children_of tree.parent tree.assocs < 256 → ((parent : Option ℕ) → children_of parent tree.assocs ≤ 256) → (parent : Option ℕ) → children_of parent (tree.assocs ++ assoc_conf tree.parent user name words ∷ []) ≤ 256
unfolding assoc_conf
few_children-push tree user name words less few parent =
    rw (sum_by_push (λ (assoc : AssocConf). cond (is_same_place assoc.parent parent) 1 0) tree.assocs (assoc_conf tree.parent user name words)) (by_place (is_same_place tree.parent parent) refl) where
      by_place : (same : Bool) → is_same_place tree.parent parent ≡ same → children_of parent tree.assocs + cond same 1 0 ≤ 256
      by_place true e =
          let here : children_of tree.parent tree.assocs ≡ children_of parent tree.assocs = ap (λ (p : Option ℕ). children_of p tree.assocs) (same-place-is tree.parent parent e) in
          omega (arith, here, less)
      by_place false e = omega (arith, few parent)

-- an account stays where it stands
account-stays : (assocs : List AssocConf) (more : AssocConf) (place : ℕ) → IsAccountAt assocs place → IsAccountAt (assocs ++ more ∷ []) place
account-stays assocs more place at = record {
  inside = rw (length_push assocs more) (omega (arith, at.inside));
  account = rw (slice_get-before assocs more place at.inside) at.account;
}

stays : (assocs : List AssocConf) (more : AssocConf) (place : Option ℕ) → IfSome place (IsAccountAt assocs) → IfSome place (IsAccountAt (assocs ++ more ∷ []))
stays assocs more None at = tt
stays assocs more (Some place) at = account-stays assocs more place at

-- so does what stands under it
under-stays : (assocs : List AssocConf) (more : AssocConf) (place : ℕ) (one : AssocConf) → place < length assocs → StandsUnder assocs place one → StandsUnder (assocs ++ more ∷ []) place one
under-stays assocs more place one inside under = record {
  before = under.before;
  account = by_parent one.parent under.before under.account;
} where
  by_parent : (parent : Option ℕ) → IfSome parent (λ p. p < place) → IfSome parent (λ p. IfSome (slice_get assocs p) (λ (account : AssocConf). account.user ≡ false)) → IfSome parent (λ p. IfSome (slice_get (assocs ++ more ∷ []) p) (λ (account : AssocConf). account.user ≡ false))
  by_parent None before account = tt
  by_parent (Some p) before account = rw (slice_get-before assocs more p (omega (arith, before, inside))) account

under-parent : (assocs : List AssocConf) (more : AssocConf) (place : ℕ) → place ≡ length assocs → IfSome more.parent (IsAccountAt assocs) → StandsUnder (assocs ++ more ∷ []) place more
under-parent assocs more place last at = record {
  before = by_before more.parent at;
  account = by_account more.parent at;
} where
  by_before : (parent : Option ℕ) → IfSome parent (IsAccountAt assocs) → IfSome parent (λ p. p < place)
  by_before None at = tt
  by_before (Some p) at = omega (arith, at.inside, last)

  by_account : (parent : Option ℕ) → IfSome parent (IsAccountAt assocs) → IfSome parent (λ p. IfSome (slice_get (assocs ++ more ∷ []) p) (λ (account : AssocConf). account.user ≡ false))
  by_account None at = tt
  by_account (Some p) at = rw (slice_get-before assocs more p at.inside) at.account

under-push : (assocs : List AssocConf) (more : AssocConf) → IfSome more.parent (IsAccountAt assocs) → ((place : ℕ) → IfSome (slice_get assocs place) (StandsUnder assocs place)) → (place : ℕ) → IfSome (slice_get (assocs ++ more ∷ []) place) (StandsUnder (assocs ++ more ∷ []) place)
under-push assocs more at under place = by_place (cases_order place (length assocs)) where
  by_one : (one : Option AssocConf) → place < length assocs → IfSome one (StandsUnder assocs place) → IfSome one (StandsUnder (assocs ++ more ∷ []) place)
  by_one None before h = tt
  by_one (Some one) before h = under-stays assocs more place one before h

  by_place : (place ≡ length assocs) ⊎ ((place < length assocs) ⊎ (length assocs < place)) → IfSome (slice_get (assocs ++ more ∷ []) place) (StandsUnder (assocs ++ more ∷ []) place)
  by_place (inl last) = rw (slice_get-last assocs more place last) (under-parent assocs more place last at)
  by_place (inr (inl before)) = rw (slice_get-before assocs more place before) (by_one (slice_get assocs place) before (under place))
  by_place (inr (inr behind)) = rw (slice_get-behind assocs more place behind) tt

-- levels
rises : (assocs : List AssocConf) → ((place : ℕ) → IfSome (slice_get assocs place) (StandsUnder assocs place)) → Rises (parents_in assocs)
rises assocs under place = rw (slice_get-map (λ (assoc : AssocConf). assoc.parent) assocs place) (by_one (slice_get assocs place) (under place)) where
  by_one : (one : Option AssocConf) → IfSome one (StandsUnder assocs place) → IfSome (option_map (λ (assoc : AssocConf). assoc.parent) one) (λ parent. IfSome parent (λ p. p < place))
  by_one None h = tt
  by_one (Some one) h = h.before

within : (assocs : List AssocConf) (parent : Option ℕ) → IfSome parent (IsAccountAt assocs) → Within (length (parents_in assocs)) parent
within assocs None at = tt
within assocs (Some p) at = omega (arith, at.inside, size) where
  size : length (parents_in assocs) ≡ length assocs
  size = length-map assocs (λ (assoc : AssocConf). assoc.parent)

shallow-push : (tree : TreeView) (user : Bool) (name : List ℕ) (words : AssocWords) → IsTree tree → depth_of tree.parent tree.assocs < greatest_depth → (place : ℕ) → depth_of (Some place) (tree.assocs ++ assoc_conf tree.parent user name words ∷ []) ≤ greatest_depth
unfolding assoc_conf
shallow-push tree user name words is less place =
    rw (map-append (λ (assoc : AssocConf). assoc.parent) tree.assocs (assoc_conf tree.parent user name words ∷ []))
    (way_up-push greatest_depth (parents_in tree.assocs) tree.parent (rises tree.assocs is.under) (within tree.assocs tree.parent is.parent) is.shallow less place)

pub tree-push : (tree : TreeView) (user : Bool) (name : List ℕ) (words : AssocWords) → IsTree tree → name_fault tree user name ≡ None → IsTree (with_assoc tree user name words)
unfolding with_assoc assoc_conf
tree-push tree user name words is e =
    let new = new-name tree user name e in
    let fits = has-room tree user name e in
    record {
      under = under-push tree.assocs (assoc_conf tree.parent user name words) is.parent is.under;
      apart = apart-push tree user name words new.0 is.apart;
      no_root = no_root-push tree user name words new.0 is.no_root;
      few_users = few_users-push tree user name words fits.0 is.few_users;
      few_children = few_children-push tree user name words fits.1 is.few_children;
      shallow = shallow-push tree user name words is fits.2;
      parent = stays tree.assocs (assoc_conf tree.parent user name words) tree.parent is.parent;
    }

-- an account that a name leads to
pub account-at : (tree : TreeView) (name : List ℕ) (place : ℕ) → account_place name tree.assocs ≡ Some place → IsAccountAt tree.assocs place
account-at tree name place leads = account-in tree.assocs leads where
  is-account : (user same : Bool) → (not user && same) ≡ true → user ≡ false
  is-account true same e = cc
  is-account false same e = refl

  account-in : (assocs : List AssocConf) → position (is_account name) assocs ≡ Some place → IsAccountAt assocs place
  account-in [] leads = cc
  account-in (first ∷ later) leads =
      let found = position-Some (is_account name) (first ∷ later) place first leads in
      record {
        inside = found.0;
        account = rw (slice_get-get_or (first ∷ later) place first found.0) (is-account (get_or (first ∷ later) place first).user (bytes_eq (get_or (first ∷ later) place first).name name) found.1);
      }
