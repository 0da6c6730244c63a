-- The places of the users among the associations.
use Rattle.std.proofs.Common.{◌≡◌, ℕ, ◌+◌, ◌<◌, ◌≤◌, Bool, true, false, cond, List, [], ◌∷◌, ◌++◌, length, take, map, filter, get_or, nat_eq, slice_get, inl, inr, Option, refl, sym, ap, ◌∙◌, arith}
use Rattle.std.specs.Prelude.{All, count_by, position, option_and_then, unwrap_or}
use Rattle.std.specs.List.{enumerate_from}
use Rattle.std.proofs.lemmas.Bool.{cases_lt, eq-eqb, ne_eqb}
use Rattle.std.proofs.lemmas.List.{append-nil, get_or_append_left, get_or_push, length-append, length-map, length-take-le, map_more, map_push}
use Rattle.std.proofs.lemmas.List.Elements.{All-nil, All-cons, All-filter, All-map, All-weaker}
use Rattle.std.proofs.lemmas.List.Sums.{sum_by-cons}
use Rattle.std.proofs.lemmas.Option.{unwrap_or-slice_get}
use Rattle.run_limits.specs.declared.record.AssocRecord.{AssocRecord}
use Rattle.run_limits.specs.declared.tree.TreeNode.{TreeNode}
use Rattle.run_limits.specs.Tree.{users}
use Rattle.ctl_waiting.specs.FairShare.{node_of, tree_of}
use Rattle.ctl_waiting.proofs.Places.{position-none, position-push_other, position-push_new}

-- the places of the users in a list that begins at a place
abbrev users_from : ℕ → List TreeNode → List ℕ
users_from n nodes = map (λ one. one.0) (filter (λ (one : ℕ × TreeNode). one.1.user) (enumerate_from n nodes))

users_from-push : (n : ℕ) (nodes : List TreeNode) (node : TreeNode)
    → users_from n (nodes ++ node ∷ []) ≡ users_from n nodes ++ cond node.user ((n + length nodes) ∷ []) []
users_from-push n [] node = last node.user (n + 0) (omega arith)
  where
    last : (b : Bool) (m : ℕ) → m ≡ n → map (λ (one : ℕ × TreeNode). one.0) (cond b ((n, node) ∷ []) []) ≡ cond b (m ∷ []) []
    last true m e = ap (λ k. k ∷ []) (sym e)
    last false m e = refl
users_from-push n (first ∷ nodes) node =
    let rest = users_from-push (n + 1) nodes node in
    let place : n + 1 + length nodes ≡ n + length (first ∷ nodes) = omega arith in
    step first.user _ _ _ (rw place at rest)
  where
    step : (b : Bool) (l m : List (ℕ × TreeNode)) (t : List ℕ) → map (λ one. one.0) l ≡ map (λ one. one.0) m ++ t
        → map (λ one. one.0) (cond b ((n, first) ∷ l) l) ≡ map (λ one. one.0) (cond b ((n, first) ∷ m) m) ++ t
    step true l m t e = ap (λ k. n ∷ k) e
    step false l m t e = e

-- one more association
pub users-more : (assocs : List AssocRecord) (i : ℕ) (assoc : AssocRecord) → i < length assocs
    → assoc ≡ get_or assocs i assoc
    → users (tree_of (take (i + 1) assocs)) ≡ users (tree_of (take i assocs)) ++ cond assoc.conf.user (i ∷ []) []
unfolding tree_of
users-more assocs i assoc low is =
    let len : 0 + length (map node_of (take i assocs)) ≡ i =
    omega (arith, length-map (take i assocs) node_of, length-take-le i assocs (omega (arith, low))) in
    let more = rw (sym is) at (map_more node_of assocs i assoc low) in
    ap users more ∙ rw len at (users_from-push 0 (map node_of (take i assocs)) (node_of assoc))

-- the users are among the associations
pub users-under : (assocs : List AssocRecord) → All (λ place. place < length assocs) (users (tree_of assocs))
unfolding tree_of
users-under assocs =
    let len = length-map assocs node_of in
    All-map (λ place. place < length assocs) (λ (one : ℕ × TreeNode). one.0) _
    (All-filter (λ (one : ℕ × TreeNode). one.1.user) (λ (one : ℕ × TreeNode). one.0 < length assocs)
    (enumerate_from 0 (map node_of assocs)) (under 0 (map node_of assocs) (omega (arith, len))))
  where
    under : (n : ℕ) (some : List TreeNode) → n + length some ≤ length assocs
        → All (λ (one : ℕ × TreeNode). one.0 < length assocs) (enumerate_from n some)
    under n [] low = All-nil (λ (one : ℕ × TreeNode). one.0 < length assocs)
    under n (first ∷ some) low =
        All-cons (λ (one : ℕ × TreeNode). one.0 < length assocs) (n, first) (enumerate_from (n + 1) some)
        (omega (arith, low)) (under (n + 1) some (omega (arith, low)))

-- one number of users for each that the list has
pub length-users : (assocs : List AssocRecord)
    → length (users (tree_of assocs)) ≡ count_by (λ (assoc : AssocRecord). assoc.conf.user) assocs
unfolding tree_of
length-users assocs = counted 0 assocs
  where
    counted : (n : ℕ) (some : List AssocRecord)
        → length (users_from n (map node_of some)) ≡ count_by (λ (assoc : AssocRecord). assoc.conf.user) some
    counted n [] = refl
    counted n (assoc ∷ some) =
        step assoc.conf.user _ (counted (n + 1) some)
        ∙ sym (sum_by-cons (λ (one : AssocRecord). cond one.conf.user 1 0) assoc some)
      where
        step : (b : Bool) (l : List (ℕ × TreeNode))
            → length (map (λ one. one.0) l) ≡ count_by (λ (one : AssocRecord). one.conf.user) some
            → length (map (λ one. one.0) (cond b ((n, node_of assoc) ∷ l) l))
            ≡ cond b 1 0 + count_by (λ (one : AssocRecord). one.conf.user) some
        step true l e = omega (arith, e)
        step false l e = omega (arith, e)

-- and so has the tree
pub length-users_of : (nodes : List TreeNode) → length (users nodes) ≡ count_by (λ (node : TreeNode). node.user) nodes
length-users_of nodes = counted 0 nodes
  where
    counted : (n : ℕ) (some : List TreeNode) → length (users_from n some) ≡ count_by (λ (node : TreeNode). node.user) some
    counted n [] = refl
    counted n (node ∷ some) =
        step node.user _ (counted (n + 1) some) ∙ sym (sum_by-cons (λ (one : TreeNode). cond one.user 1 0) node some)
      where
        step : (b : Bool) (l : List (ℕ × TreeNode))
            → length (map (λ one. one.0) l) ≡ count_by (λ (one : TreeNode). one.user) some
            → length (map (λ one. one.0) (cond b ((n, node) ∷ l) l)) ≡ cond b 1 0 + count_by (λ (one : TreeNode). one.user) some
        step true l e = omega (arith, e)
        step false l e = omega (arith, e)

-- the rank of the association at a place, by the ranks of the users
abbrev pub rank_in : List ℕ → List AssocRecord → ℕ → ℕ
rank_in ranks assocs place =
    unwrap_or (option_and_then (slice_get ranks) (position (nat_eq place) (users (tree_of assocs)))) 0

-- no user stands at a place behind all
none-behind : (assocs : List AssocRecord) (place : ℕ) → length assocs ≤ place
    → All (λ user. nat_eq place user ≡ false) (users (tree_of assocs))
none-behind assocs place high =
    All-weaker (λ user. user < length assocs) (λ user. nat_eq place user ≡ false)
    (λ user low. ne_eqb place user (λ same. omega (arith, same, low, high))) (users (tree_of assocs)) (users-under assocs)

pub rank_in-behind : (ranks : List ℕ) (assocs : List AssocRecord) (place : ℕ) → length assocs ≤ place
    → rank_in ranks assocs place ≡ 0
rank_in-behind ranks assocs place high =
    ap (λ (found : Option ℕ). unwrap_or (option_and_then (slice_get ranks) found) 0)
    (position-none (nat_eq place) (users (tree_of assocs)) (none-behind assocs place high))

-- one more association: a user's has the next rank, an account's none, and those before keep theirs
module _ (ranks : List ℕ) (assocs : List AssocRecord) (i : ℕ) (assoc : AssocRecord) (low : i < length assocs) (is : assoc ≡ get_or assocs i assoc) where
  len : length (take i assocs) ≤ i
  len = omega (arith, length-take-le i assocs (omega (arith, low)))

  pub rank_in-before : (place : ℕ) → place < i → rank_in ranks (take (i + 1) assocs) place ≡ rank_in ranks (take i assocs) place
  rank_in-before place before =
      ap (λ (found : Option ℕ). unwrap_or (option_and_then (slice_get ranks) found) 0)
      (ap (position (nat_eq place)) (users-more assocs i assoc low is) ∙ by_user assoc.conf.user)
    where
      by_user : (b : Bool) → position (nat_eq place) (users (tree_of (take i assocs)) ++ cond b (i ∷ []) [])
          ≡ position (nat_eq place) (users (tree_of (take i assocs)))
      by_user true =
          position-push_other (nat_eq place) (users (tree_of (take i assocs))) i (ne_eqb place i (λ same. omega (arith, same, before)))
      by_user false = ap (position (nat_eq place)) (append-nil (users (tree_of (take i assocs))))

  pub rank_in-user : assoc.conf.user ≡ true
      → rank_in ranks (take (i + 1) assocs) i ≡ get_or ranks (length (users (tree_of (take i assocs)))) 0
  rank_in-user user =
      let more = rw user at (users-more assocs i assoc low is) in
      let found = position-push_new (nat_eq i) (users (tree_of (take i assocs))) i (none-behind (take i assocs) i len) (eq-eqb i i refl) in
      ap (λ (found : Option ℕ). unwrap_or (option_and_then (slice_get ranks) found) 0) (ap (position (nat_eq i)) more ∙ found)
      ∙ unwrap_or-slice_get ranks (length (users (tree_of (take i assocs)))) 0

  pub rank_in-account : assoc.conf.user ≡ false → rank_in ranks (take (i + 1) assocs) i ≡ 0
  rank_in-account account =
      let more = rw account at (users-more assocs i assoc low is) in
      let same = more ∙ append-nil (users (tree_of (take i assocs))) in
      ap (λ (found : Option ℕ). unwrap_or (option_and_then (slice_get ranks) found) 0)
      (ap (position (nat_eq i)) same ∙ position-none (nat_eq i) (users (tree_of (take i assocs))) (none-behind (take i assocs) i len))

  pub users-more_user : assoc.conf.user ≡ true
      → length (users (tree_of (take (i + 1) assocs))) ≡ length (users (tree_of (take i assocs))) + 1
  users-more_user user =
      let more = ap length (rw user at (users-more assocs i assoc low is)) in
      simp length-append at more

  pub users-more_account : assoc.conf.user ≡ false → users (tree_of (take (i + 1) assocs)) ≡ users (tree_of (take i assocs))
  users-more_account account =
      let more = rw account at (users-more assocs i assoc low is) in
      more ∙ append-nil (users (tree_of (take i assocs)))

  -- what the users have used, with one more association
  pub used-more_user : (usage used last : List ℕ) (more : ℕ) → assoc.conf.user ≡ true
      → used ≡ map (λ place. get_or usage place 0) (users (tree_of (take i assocs))) → more ≡ get_or usage i 0
      → last ≡ used ++ more ∷ [] → last ≡ map (λ place. get_or usage place 0) (users (tree_of (take (i + 1) assocs)))
  used-more_user usage used last more user before is_more is_last =
      let at : ℕ → ℕ = λ place. get_or usage place 0 in
      is_last ∙ ap (λ l. l ++ more ∷ []) before ∙ ap (λ m. map at (users (tree_of (take i assocs))) ++ m ∷ []) is_more
      ∙ sym (ap (map at) (rw user at (users-more assocs i assoc low is)) ∙ map_push at (users (tree_of (take i assocs))) i)

  pub used-more_account : (usage used : List ℕ) → assoc.conf.user ≡ false
      → used ≡ map (λ place. get_or usage place 0) (users (tree_of (take i assocs)))
      → used ≡ map (λ place. get_or usage place 0) (users (tree_of (take (i + 1) assocs)))
  used-more_account usage used account before =
      before ∙ ap (map (λ place. get_or usage place 0)) (sym (users-more_account account))

  -- one more rank
  pub spread-more : (spread last : List ℕ) (more : ℕ) → length spread ≡ i → last ≡ spread ++ more ∷ []
      → ((place : ℕ) → place < i → get_or spread place 0 ≡ rank_in ranks (take i assocs) place)
      → more ≡ rank_in ranks (take (i + 1) assocs) i
      → (place : ℕ) → place < i + 1 → get_or last place 0 ≡ rank_in ranks (take (i + 1) assocs) place
  spread-more spread last more len is_last before is_more =
      below_more i
      (λ place inside.
      ap (λ l. get_or l place 0) is_last ∙ get_or_append_left spread (more ∷ []) 0 place (omega (arith, len, inside))
      ∙ before place inside ∙ sym (rank_in-before place inside))
      (ap (λ l. get_or l i 0) is_last ∙ get_or_push spread more 0 i len ∙ is_more)
    where
      below_more : (n : ℕ) → ((place : ℕ) → place < n → get_or last place 0 ≡ rank_in ranks (take (i + 1) assocs) place)
          → get_or last n 0 ≡ rank_in ranks (take (i + 1) assocs) n
          → (place : ℕ) → place < n + 1 → get_or last place 0 ≡ rank_in ranks (take (i + 1) assocs) place
      below_more n below here place inside = elim (cases_lt place n) [
        | inl lower ↦ below place lower
        | inr high ↦ let same : place ≡ n = omega (arith, inside, high) in rw same here
      ]
