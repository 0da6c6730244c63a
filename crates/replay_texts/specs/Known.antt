-- Which accounts and users an association file has.
use Rattle.std.specs.Prelude.{ℕ, Bool, true, false, ◌&&◌, if◌then◌else◌, List, Option, Some, None, option_map, filter_map, slice_get, bytes_eq}
use Rattle.std.specs.List.{list_any}
use Rattle.plain_data.specs.declared.assoc.AssocConf.{AssocConf}
use Rattle.replay_texts.specs.declared.known.AccountUser.{AccountUser}

abbrev pub account_in : AssocConf → Option (List ℕ)
account_in assoc = if assoc.user then None else Some assoc.name

-- the names of the accounts, in the order of the file
abbrev pub accounts_in : List AssocConf → List (List ℕ)
accounts_in assocs = filter_map account_in assocs

abbrev pub name_at : List AssocConf → ℕ → Option (List ℕ)
name_at assocs place = option_map (λ (account : AssocConf). account.name) (slice_get assocs place)

-- the name of the account at a place; None is root
abbrev pub account_at : List AssocConf → Option ℕ → Option (List ℕ)
account_at assocs (Some place) = name_at assocs place
account_at assocs None = None

abbrev pub user_in : List AssocConf → AssocConf → Option AccountUser
user_in assocs assoc =
    if assoc.user then Some (record { account = account_at assocs assoc.parent; user = assoc.name }) else None

-- the users of accounts, in the order of the file
abbrev pub users_in : List AssocConf → List AccountUser
users_in assocs = filter_map (user_in assocs) assocs

abbrev pub has_account : List (List ℕ) → List ℕ → Bool
has_account accounts name = list_any (λ one. bytes_eq one name) accounts

abbrev pub same_account : Option (List ℕ) → Option (List ℕ) → Bool
same_account (Some one) (Some other) = bytes_eq one other
same_account (Some one) None = false
same_account None (Some other) = false
same_account None None = true

abbrev pub is_user : Option (List ℕ) → List ℕ → AccountUser → Bool
is_user account name one = same_account one.account account && bytes_eq one.user name

abbrev pub has_user : List AccountUser → Option (List ℕ) → List ℕ → Bool
has_user users account name = list_any (is_user account name) users
