-- Where the associations of a name stand.
use Rattle.std.specs.Prelude.{◌≡◌, ℕ, ◌+◌, ◌-◌, ◌<◌, ◌≤◌, List, take, drop, length, position, Option, Some, None}
use Rattle.run_limits.specs.declared.record.AssocRecord.{AssocRecord}
use Rattle.run_limits.specs.declared.spans.Span.{Span}
use Rattle.run_limits.specs.Accounts.{is_named}

-- the first association of the name stands at the first place of the span, and none stands behind the last
pub record IsSpan (assocs : List AssocRecord) (name : List ℕ) (span : Span) : Type 0 where
  pub first : position (is_named name) assocs ≡ Some span.first
  pub ordered : span.first ≤ span.last
  pub inside : span.last < length assocs
  pub behind : position (is_named name) (drop (span.last + 1) assocs) ≡ None

-- it is the span of the name, or there is none since no association has the name
abbrev pub IsSpanIfAny : List AssocRecord → List ℕ → Option Span → Type 0
IsSpanIfAny assocs name None = position (is_named name) assocs ≡ None
IsSpanIfAny assocs name (Some span) = IsSpan assocs name span

-- the associations at the places of the span
abbrev pub within : List AssocRecord → Span → List AssocRecord
within assocs span = take (span.last + 1 - span.first) (drop span.first assocs)

-- the span of a name that stands at a place too, behind all others
abbrev pub up_to : Option Span → ℕ → Span
up_to None place = record { first = place; last = place }
up_to (Some span) place = record { first = span.first; last = place }
