-- Sums over jobs, by group and over all.
use Rattle.std.specs.Prelude.{◌≡◌, ℕ, ◌++◌, [], ◌∷◌, if◌then◌else◌, List, length, map, filter, sum_by, Option, Some, None, All}
use Rattle.std.specs.List.{list_any}
use Rattle.replay_report.specs.Named.{AreNamesOf, is_nameless, is_of, names_said}
use Rattle.replay_report.specs.Numbers.{IsSpreadOf, stopped}
use Rattle.replay_report.specs.Spans.{slowdown_of, spans_in, used_of, wait_of}
use Rattle.replay_report.specs.declared.groups.GroupSums.{GroupSums}
use Rattle.replay_report.specs.declared.named.GroupKind.{GroupKind}
use Rattle.replay_report.specs.declared.outcome.JobOutcome.{JobOutcome}
use Rattle.replay_report.specs.declared.spans.Span.{Span}
use Rattle.replay_report.specs.declared.sums.Sums.{Sums}

-- the sums over so many jobs, of which these ran
pub record AreSums (count : ℕ) (spans : List Span) (sums : Sums) : Type 0 where
  pub jobs : sums.jobs ≡ count
  pub ran : sums.ran ≡ length spans
  pub wait : IsSpreadOf (map wait_of spans) sums.wait
  pub slowdown : IsSpreadOf (map slowdown_of spans) sums.slowdown
  pub used : sums.used ≡ stopped (sum_by used_of spans)

-- the jobs of a group
abbrev pub jobs_of : GroupKind → Option (List ℕ) → List JobOutcome → List JobOutcome
jobs_of kind name outcomes = filter (is_of kind name) outcomes

-- the sums over a group
abbrev pub AreGroupSums : GroupKind → List JobOutcome → GroupSums → Type 0
AreGroupSums kind outcomes group =
    AreSums (length (jobs_of kind group.name outcomes)) (spans_in (jobs_of kind group.name outcomes)) group.sums

-- the group without a name, where a job has none
abbrev pub nameless : GroupKind → List JobOutcome → List (Option (List ℕ))
nameless kind outcomes = if list_any (is_nameless kind) outcomes then None ∷ [] else []

-- the groups: those with names, in the order of these, and the one without a name last
pub record AreGroups (kind : GroupKind) (outcomes : List JobOutcome) (groups : List GroupSums) : Type 0 where
  pub names : (names : List (List ℕ)) × AreNamesOf (names_said kind outcomes) names
      × (map (λ (group : GroupSums). group.name) groups ≡ map (λ name. Some name) names ++ nameless kind outcomes)
  pub sums : All (AreGroupSums kind outcomes) groups
