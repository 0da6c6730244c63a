-- What is kept beside the associations that are read, so that their names and numbers are at hand.
use Rattle.std.specs.Prelude.{◌≡◌, ℕ, ◌≤◌, Bool, ◌&&◌, nat_eq, List, length, bytes_eq, get_or, Option, Some, None}
use Rattle.std.specs.HashMap.{get}
use Rattle.std.specs.HashSet.{contains}
use Rattle.std.specs.List.{list_any}
use Rattle.std.specs.Option.{option_eq}
use Rattle.plain_data.specs.declared.assoc.AssocConf.{AssocConf}
use Rattle.assoc_reader.specs.Tree.{account_place, is_user_of, users_in, children_of}
use Rattle.assoc_reader.specs.declared.counts.Counts.{Counts}
use Rattle.assoc_reader.specs.declared.name_index.NameIndex.{NameIndex}

-- two users have the same parent and name
abbrev pub is_same_user : Option ℕ × List ℕ → Option ℕ × List ℕ → Bool
is_same_user one other = option_eq nat_eq one.0 other.0 && bytes_eq one.1 other.1

-- the index leads from each name to its account, and knows the users
pub record Indexes (index : NameIndex) (assocs : List AssocConf) : Type 0 where
  pub accounts : (name : List ℕ) → get bytes_eq index.accounts name ≡ account_place name assocs
  pub users : (parent : Option ℕ) (name : List ℕ)
      → contains is_same_user index.users (parent, name) ≡ list_any (is_user_of parent name) assocs

-- the number that is kept for an account
abbrev pub kept_for : Option ℕ → Counts → ℕ
kept_for None counts = counts.of_root
kept_for (Some place) counts = get_or counts.of_each.items place 0

-- the numbers of users and of children are right
pub record IsCount (counts : Counts) (assocs : List AssocConf) : Type 0 where
  pub users : counts.users ≡ users_in assocs
  pub children : (parent : Option ℕ) → kept_for parent counts ≡ children_of parent assocs
  pub room : length assocs ≤ length counts.of_each.items
