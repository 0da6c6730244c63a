-- The associations that the lines of a file make, and the account under which the next ones stand.
use Rattle.std.specs.Prelude.{◌≡◌, ◌≢◌, ℕ, suc, ◌<◌, ◌≤◌, Bool, false, not, ◌&&◌, ◌||◌, nat_le, if◌then◌else◌, List, [], ◌∷◌, ◌++◌, length, count_by, position, slice_get, codes, bytes_eq, AllPairs, All, IfSome, Option, Some, None, option_map, is_some}
use Rattle.std.specs.List.{list_any}
use Rattle.plain_data.specs.Assocs.{StandsUnder, AreNamedApart, is_same_place, parents_in, way_up, greatest_depth}
use Rattle.plain_data.specs.declared.assoc.AssocConf.{AssocConf}
use Rattle.assoc_reader.specs.declared.assoc_words.AssocWords.{AssocWords}
use Rattle.assoc_reader.specs.declared.refusal.AssocKind.{AssocKind}
use Rattle.assoc_reader.specs.declared.refusal.AssocKind.TheVariants.{TwiceNamed, OverLimit}

pub record TreeView : Type 0 where
  -- in the order of the file
  pub assocs : List AssocConf
  -- the place of the account of the next ones; None is root
  pub parent : Option ℕ

-- before the first line
unfoldable pub no_assocs : TreeView
no_assocs = record { assocs = []; parent = None }

-- `root` is an account that no line names
abbrev pub is_root : List ℕ → Bool
is_root name = bytes_eq name (codes "root")

-- an account of this name
abbrev pub is_account : List ℕ → AssocConf → Bool
is_account name assoc = not assoc.user && bytes_eq assoc.name name

-- a user of this name under an account, None being root
abbrev pub is_user_of : Option ℕ → List ℕ → AssocConf → Bool
is_user_of parent name assoc = assoc.user && (is_same_place assoc.parent parent && bytes_eq assoc.name name)

-- the place of an account that a line names
abbrev pub account_place : List ℕ → List AssocConf → Option ℕ
account_place name assocs = position (is_account name) assocs

-- an account as the parent of others: root, or one that a line names
unfoldable pub parent_named : List ℕ → List AssocConf → Option (Option ℕ)
parent_named name assocs = if is_root name then Some None else option_map Some (account_place name assocs)

-- whether there is such an account, or such a user of the account at hand
unfoldable pub is_named : TreeView → Bool → List ℕ → Bool
is_named tree user name =
    if user then list_any (is_user_of tree.parent name) tree.assocs
    else is_some (parent_named name tree.assocs)

-- how many users there are
abbrev pub users_in : List AssocConf → ℕ
users_in assocs = count_by (λ (assoc : AssocConf). assoc.user) assocs

-- how many associations belong to an account
abbrev pub children_of : Option ℕ → List AssocConf → ℕ
children_of parent assocs = count_by (λ (assoc : AssocConf). is_same_place assoc.parent parent) assocs

-- how deep an account stands: root at 0
abbrev pub depth_of : Option ℕ → List AssocConf → ℕ
depth_of parent assocs = length (way_up (suc greatest_depth) (parents_in assocs) parent)

-- whether there are as many users, children of the account at hand, or levels as there may be
unfoldable pub is_full : TreeView → Bool → Bool
is_full tree user =
    (user && nat_le 4096 (users_in tree.assocs))
    || (nat_le 256 (children_of tree.parent tree.assocs) || nat_le greatest_depth (depth_of tree.parent tree.assocs))

-- what is wrong with the name of one more
unfoldable pub name_fault : TreeView → Bool → List ℕ → Option AssocKind
name_fault tree user name =
    if is_named tree user name then Some TwiceNamed
    else (if is_full tree user then Some OverLimit else None)

-- an association by what its line says
unfoldable pub assoc_conf : Option ℕ → Bool → List ℕ → AssocWords → AssocConf
assoc_conf parent user name words = record {
  parent = parent;
  name = name;
  user = user;
  shares = words.shares;
  default_account = words.default_account;
  limits = words.limits;
}

-- with one more association behind the others, under the account at hand
unfoldable pub with_assoc : TreeView → Bool → List ℕ → AssocWords → TreeView
with_assoc tree user name words =
    record tree { assocs = tree.assocs ++ assoc_conf tree.parent user name words ∷ [] }

-- an account stands at a place
pub record IsAccountAt (assocs : List AssocConf) (place : ℕ) : Type 0 where
  pub inside : place < length assocs
  pub account : IfSome (slice_get assocs place) (λ (assoc : AssocConf). assoc.user ≡ false)

-- What is true of associations as far as a file is read.
pub record IsTree (tree : TreeView) : Type 0 where
  pub under : (place : ℕ) → IfSome (slice_get tree.assocs place) (StandsUnder tree.assocs place)
  pub apart : AllPairs AreNamedApart tree.assocs
  pub no_root : All (λ (assoc : AssocConf). assoc.user ≡ false → assoc.name ≢ codes "root") tree.assocs
  pub few_users : users_in tree.assocs ≤ 4096
  pub few_children : (parent : Option ℕ) → children_of parent tree.assocs ≤ 256
  pub shallow : (place : ℕ) → depth_of (Some place) tree.assocs ≤ greatest_depth
  pub parent : IfSome tree.parent (IsAccountAt tree.assocs)
