-- Accounts, their users and qualities of service: what names mean, and the way up from a user to root.
use Rattle.std.specs.Prelude.{ℕ, ◌<◌, ◌≤◌, count_by, IfSome, Bool, false, ◌&&◌, if◌then◌else◌, nat_eq, unwrap_or, List, map, filter_map, position, slice_get, bytes_eq, codes, Option, Some, None, option_map, option_and_then}
use Rattle.std.specs.Option.{option_or}
use Rattle.plain_data.specs.Assocs.{greatest_depth, is_same_place, way_up}
use Rattle.plain_data.specs.declared.assoc.AssocConf.{AssocConf}
use Rattle.plain_data.specs.declared.assoc.AssocLimits.{AssocLimits}
use Rattle.plain_data.specs.declared.assoc.QosConf.{QosConf}
use Rattle.plain_data.specs.declared.assoc.QosLimits.{QosLimits}
use Rattle.run_limits.specs.declared.record.AssocRecord.{AssocRecord}
use Rattle.run_limits.specs.declared.record.QosRecord.{QosRecord}

-- what contracts see of the accounts
pub record AssocsView : Type 0 where
  -- in the order of the file
  pub records : List AssocRecord
  -- in the order of the file
  pub qos : List QosRecord

-- each association belongs to root, or to one that stands before it
abbrev pub AreRooted : List AssocRecord → Type 0
AreRooted assocs =
    (place : ℕ)
    → IfSome (slice_get assocs place) (λ (assoc : AssocRecord). IfSome assoc.conf.parent (λ parent. parent < place))

-- there are few users, and few associations belong to any one account or to root
pub record AreFew (assocs : List AssocRecord) : Type 0 where
  pub users : count_by (λ (assoc : AssocRecord). assoc.conf.user) assocs ≤ 4096
  pub children : (parent : Option ℕ)
      → count_by (λ (assoc : AssocRecord). is_same_place assoc.conf.parent parent) assocs ≤ 256

-- an association, and a quality of service, before any request
abbrev pub opened : AssocConf → AssocRecord
opened conf = record { conf = conf }

abbrev pub opened_qos : QosConf → QosRecord
opened_qos conf = record { conf = conf }

-- the places on the way up to root from an association, which is the first of them
unfoldable pub above : List AssocRecord → ℕ → List ℕ
above assocs place = way_up greatest_depth (map (λ (assoc : AssocRecord). assoc.conf.parent) assocs) (Some place)

-- the name of the account that an association belongs to; there is one, root, that no association stands for
abbrev pub account_of : List AssocRecord → AssocRecord → List ℕ
account_of assocs assoc =
    unwrap_or
    (option_map (λ (parent : AssocRecord). parent.conf.name) (option_and_then (slice_get assocs) assoc.conf.parent))
    (codes "root")

-- the association is the user's
abbrev pub is_of_user : List ℕ → AssocRecord → Bool
is_of_user user assoc = assoc.conf.user && bytes_eq assoc.conf.name user

-- it is the user's, of this account
abbrev pub is_users_in : List AssocRecord → List ℕ → List ℕ → AssocRecord → Bool
is_users_in assocs user account assoc = is_of_user user assoc && bytes_eq (account_of assocs assoc) account

-- the place of the user's association of this account
abbrev pub place_in : List AssocRecord → List ℕ → List ℕ → Option ℕ
place_in assocs user account = position (is_users_in assocs user account) assocs

-- where the association is the user's and has a default account of his: the place of his association of that account
abbrev pub default_by : List AssocRecord → List ℕ → AssocRecord → Option ℕ
default_by assocs user assoc =
    if is_of_user user assoc then option_and_then (place_in assocs user) assoc.conf.default_account else None

-- The place of the association that a user means who names this account. Who names none means his default account: the
-- first one that an association of his has and that is an account of his, else that of his first association.
unfoldable pub place_meant : List AssocRecord → List ℕ → Option (List ℕ) → Option ℕ
place_meant assocs user (Some account) = place_in assocs user account
place_meant assocs user None =
    option_or (slice_get (filter_map (default_by assocs user) assocs) 0) (position (is_of_user user) assocs)

-- the place of the quality of service that is meant by a name, or by none, which means normal
abbrev pub qos_meant : List QosRecord → Option (List ℕ) → Option ℕ
qos_meant qos name =
    position (λ (one : QosRecord). bytes_eq one.conf.name (unwrap_or name (codes "normal"))) qos

-- no limits
abbrev pub no_limits : AssocLimits
no_limits = record { grp_jobs = None; grp_submit = None; grp_cpus = None; max_jobs = None; max_submit = None }

abbrev pub no_qos_limits : QosLimits
no_qos_limits = record {
  grp_jobs = None;
  grp_submit = None;
  grp_cpus = None;
  user_jobs = None;
  user_submit = None;
  user_cpus = None;
  max_wall = None;
}

-- the limits of the association, and of the quality of service, at a place
abbrev pub limits_at : List AssocRecord → ℕ → AssocLimits
limits_at assocs place =
    unwrap_or (option_map (λ (assoc : AssocRecord). assoc.conf.limits) (slice_get assocs place)) no_limits

abbrev pub qos_limits_at : List QosRecord → ℕ → QosLimits
qos_limits_at qos place =
    unwrap_or (option_map (λ (one : QosRecord). one.conf.limits) (slice_get qos place)) no_qos_limits

-- the user of the association at a place
abbrev pub user_at : List AssocRecord → ℕ → Option (List ℕ)
user_at assocs place = option_map (λ (assoc : AssocRecord). assoc.conf.name) (slice_get assocs place)

-- two names are there, and are one
abbrev pub is_same_user : Option (List ℕ) → Option (List ℕ) → Bool
is_same_user (Some one) (Some other) = bytes_eq one other
is_same_user one other = false

-- the associations at two places are of one user
unfoldable pub are_of_one_user : List AssocRecord → ℕ → ℕ → Bool
are_of_one_user assocs one other = is_same_user (user_at assocs one) (user_at assocs other)

-- the association, of an account or of a user, has this name
abbrev pub is_named : List ℕ → AssocRecord → Bool
is_named name assoc = bytes_eq assoc.conf.name name

-- the number by which the user of an association is told from others: the place of the first association of the name
abbrev pub number_in : List AssocRecord → AssocRecord → ℕ
number_in assocs assoc = unwrap_or (position (is_named assoc.conf.name) assocs) 0

-- the number of the user of the association at a place
abbrev pub user_number : List AssocRecord → ℕ → Option ℕ
user_number assocs place = option_map (number_in assocs) (slice_get assocs place)

-- two numbers are there, and are one
abbrev pub is_same_number : Option ℕ → Option ℕ → Bool
is_same_number (Some one) (Some other) = nat_eq one other
is_same_number one other = false
