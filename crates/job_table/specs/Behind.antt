-- Which jobs have another of their user and name before them that hasn't ended, and which wait for such others.
use Rattle.std.specs.Prelude.{◌≡◌, ℕ, Bool, true, false, ◌&&◌, not, nat_eq, bytes_eq, unwrap_or, option_map, List, All, IfSome}
use Rattle.std.specs.Borrow.{Bor}
use Rattle.std.specs.HashSet.{contains}
use Rattle.std.specs.List.{list_any}
use Rattle.plain_data.specs.declared.dependency.DepKind.{DepKind}
use Rattle.plain_data.specs.declared.dependency.DepKind.TheVariants as kinds
use Rattle.plain_data.specs.declared.dependency.DepItem.{DepItem}
use Rattle.plain_data.specs.declared.dependency.DepSpec.{DepSpec}
use Rattle.job_table.specs.declared.behind.Behind.{Behind}
use Rattle.job_table.specs.declared.record.JobRecord.{JobRecord}
use Rattle.job_table.specs.declared.terms.Terms.{Terms}
use Rattle.job_table.specs.JobStates.{is_ended}
use Rattle.job_table.specs.Standing.{is_before}

-- a job of this user and name that hasn't ended
abbrev pub is_alike : List ℕ → List ℕ → JobRecord → Bool
is_alike user name job = not (is_ended job.state) && (bytes_eq job.user user && bytes_eq job.terms.name name)

-- a user and a name, as they are kept
abbrev pub UserAndName : Type 0
UserAndName = Bor (List ℕ) × Bor (List ℕ)

abbrev pub same_texts : UserAndName → UserAndName → Bool
same_texts one other = bytes_eq one.0.now other.0.now && bytes_eq one.1.now other.1.now

-- what is known, if something is, is so of this job
abbrev pub ShowsBehind : Behind → List JobRecord → JobRecord → Type 0
ShowsBehind behind jobs own =
    IfSome behind.numbers (λ numbers. contains nat_eq numbers own.id ≡ list_any (is_before own) jobs)

-- an item of this kind is for the jobs before one of its user and name
abbrev pub is_singleton : DepKind → Bool
is_singleton kinds.Singleton = true
is_singleton kind = false

abbrev pub has_singleton : DepSpec → Bool
has_singleton spec = list_any (λ (item : DepItem). is_singleton item.kind) spec.items

-- the terms say that a job waits for those before it of its user and name
unfoldable pub waits_behind : Terms → Bool
waits_behind terms = unwrap_or (option_map has_singleton terms.dependency) false

-- one of the jobs has such terms, and none has
abbrev pub one_waits_behind : List JobRecord → Bool
one_waits_behind jobs = list_any (λ (job : JobRecord). waits_behind job.terms) jobs

abbrev pub NoneWaitsBehind : List JobRecord → Type 0
NoneWaitsBehind jobs = All (λ (job : JobRecord). waits_behind job.terms ≡ false) jobs
