-- What contracts see of the association file, and what is true of every one.
use Rattle.std.specs.Prelude.{◌≡◌, ◌≢◌, ℕ, zero, suc, ◌<◌, ◌≤◌, Bool, true, false, nat_eq, unwrap_or, List, [], ◌∷◌, length, map, count_by, slice_get, codes, AllPairs, Any, All, Contains, IfSome, Option, Some, None, option_map}
use Rattle.plain_data.specs.declared.assoc.AssocConf.{AssocConf}
use Rattle.plain_data.specs.declared.assoc.QosConf.{QosConf}

pub record AssocView : Type 0 where
  -- in the order of the file
  pub assocs : List AssocConf
  -- in the order of the file
  pub qos : List QosConf

-- the places of the accounts that the associations belong to; None is root
abbrev pub parents_in : List AssocConf → List (Option ℕ)
parents_in assocs = map (λ (assoc : AssocConf). assoc.parent) assocs

-- The places on the way up to root from a place, which is the first of them: those that there are, and no more than so
-- many.
abbrev pub way_up : ℕ → List (Option ℕ) → Option ℕ → List ℕ
way_up zero parents place = []
way_up (suc most) parents None = []
way_up (suc most) parents (Some place) =
    unwrap_or (option_map (λ parent. place ∷ way_up most parents parent) (slice_get parents place)) []

-- how far up the tree goes from a user to the child of root, both counted
unfoldable pub greatest_depth : ℕ
greatest_depth = 16

-- one place is another, or both are none
abbrev pub is_same_place : Option ℕ → Option ℕ → Bool
is_same_place None None = true
is_same_place (Some one) (Some other) = nat_eq one other
is_same_place one other = false

-- the association at this place belongs to root, or to an account that stands before it
pub record StandsUnder (assocs : List AssocConf) (place : ℕ) (assoc : AssocConf) : Type 0 where
  pub before : IfSome assoc.parent (λ parent. parent < place)
  pub account : IfSome assoc.parent (λ parent. IfSome (slice_get assocs parent) (λ (one : AssocConf). one.user ≡ false))

-- accounts differ in their names, and users of one account do
pub record AreNamedApart (one other : AssocConf) : Type 0 where
  pub accounts : one.user ≡ false → other.user ≡ false → one.name ≢ other.name
  pub users : one.user ≡ true → other.user ≡ true → one.parent ≡ other.parent → one.name ≢ other.name

abbrev pub qos_names : List QosConf → List (List ℕ)
qos_names qos = map (λ (one : QosConf). one.name) qos

-- the jobs that each may have requeued are of qualities of service among these
abbrev pub PreemptAmong : List (List ℕ) → List QosConf → Type 0
PreemptAmong names qos = All (λ (one : QosConf). All (Contains names) one.preempt) qos

-- What is true of the associations and the qualities of service of a file.
pub record IsAssocFile (assocs : List AssocConf) (qos : List QosConf) : Type 0 where
  pub under : (place : ℕ) → IfSome (slice_get assocs place) (StandsUnder assocs place)
  pub apart : AllPairs AreNamedApart assocs
  -- root is no line's account
  pub no_root : All (λ (assoc : AssocConf). assoc.user ≡ false → assoc.name ≢ codes "root") assocs
  pub few_users : count_by (λ (assoc : AssocConf). assoc.user) assocs ≤ 4096
  pub few_children : (parent : Option ℕ) → count_by (λ (assoc : AssocConf). is_same_place assoc.parent parent) assocs ≤ 256
  pub shallow : (place : ℕ) → length (way_up (suc greatest_depth) (parents_in assocs) (Some place)) ≤ greatest_depth
  pub few_qos : length qos ≤ 64
  pub qos_once : AllPairs (λ (one other : QosConf). one.name ≢ other.name) qos
  pub has_normal : Any (λ (one : QosConf). one.name ≡ codes "normal") qos
  pub preempts_known : PreemptAmong (qos_names qos) qos
