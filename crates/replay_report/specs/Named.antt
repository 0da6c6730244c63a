-- Jobs by the names of their accounts, partitions or qualities of service.
use Rattle.std.specs.Prelude.{ℕ, Bool, true, false, List, Option, Some, None, is_none, filter_map, bytes_eq, Contains}
use Rattle.std.specs.Cmp.Lexicographic.{slice_cmp}
use Rattle.std.specs.List.Sorted.{IsStrictlySortedBy}
use Rattle.std.specs.Ordering.{nat_cmp}
use Rattle.trace_text.specs.declared.job.TraceNames.{TraceNames}
use Rattle.replay_report.specs.declared.named.GroupKind.{GroupKind}
use Rattle.replay_report.specs.declared.named.GroupKind.TheVariants.{Account, Partition, Qos}
use Rattle.replay_report.specs.declared.outcome.JobOutcome.{JobOutcome}

abbrev pub name_of : GroupKind → TraceNames → Option (List ℕ)
name_of Account names = names.account
name_of Partition names = names.partition
name_of Qos names = names.qos

abbrev pub same_name : Option (List ℕ) → Option (List ℕ) → Bool
same_name (Some one) (Some other) = bytes_eq one other
same_name (Some one) None = false
same_name None (Some other) = false
same_name None None = true

-- a job is of the group with this name, or of that without one
abbrev pub is_of : GroupKind → Option (List ℕ) → JobOutcome → Bool
is_of kind name outcome = same_name (name_of kind outcome.names) name

abbrev pub is_nameless : GroupKind → JobOutcome → Bool
is_nameless kind outcome = is_none (name_of kind outcome.names)

-- the names that jobs have
abbrev pub names_said : GroupKind → List JobOutcome → List (List ℕ)
names_said kind outcomes = filter_map (λ (outcome : JobOutcome). name_of kind outcome.names) outcomes

-- the names that were said, each once, in the order of their bytes
pub record AreNamesOf (said names : List (List ℕ)) : Type 0 where
  pub ordered : IsStrictlySortedBy (slice_cmp nat_cmp) names
  pub all : (name : List ℕ) → Contains said name → Contains names name
  pub only : (name : List ℕ) → Contains names name → Contains said name
