-- Two replays of one trace, job by job.
use Rattle.std.specs.Prelude.{◌≡◌, ℕ, ◌+◌, ◌-◌, Bool, ◌&&◌, ◌||◌, nat_eq, nat_lt, List, [], ◌∷◌, ◌++◌, filter, take, Option, Some, option_to_list, slice_get, IsPermutation}
use Rattle.std.specs.List.Sorted.{IsSortedBy}
use Rattle.small_texts.specs.Options.{◌>>=◌}
use Rattle.replay_report.specs.Spans.{span_of, wait_of}
use Rattle.replay_report.specs.declared.comparing.Change.{Change}
use Rattle.replay_report.specs.declared.comparing.Direction.{Direction}
use Rattle.replay_report.specs.declared.comparing.Direction.TheVariants.{Less, More}
use Rattle.replay_report.specs.declared.comparing.Turn.{Turn}
use Rattle.replay_report.specs.declared.outcome.JobOutcome.{JobOutcome}
use Rattle.replay_report.specs.declared.spans.Span.{Span}

-- when a job started, and how long it had waited, where it ran
abbrev pub turn_of : JobOutcome → Option Turn
turn_of outcome = span_of outcome >>= λ (span : Span). Some (record { start = span.start; wait = wait_of span })

-- a job that ran in both replays
abbrev pub change_at : ℕ → JobOutcome → JobOutcome → Option Change
change_at place before after = do
  earlier ← turn_of before
  later ← turn_of after
  Some (record { place = place; id = before.id; before = earlier; after = later })

-- the change of the job at a place: the other replay has its outcome at the same one
abbrev pub change_with : List JobOutcome → ℕ → JobOutcome → Option Change
change_with others place one = slice_get others place >>= λ other. change_at place one other

-- those of the outcomes from a place on
unfoldable pub changes_in : List JobOutcome → ℕ → List JobOutcome → List Change
changes_in others place [] = []
changes_in others place (one ∷ ones) =
    option_to_list (change_with others place one) ++ changes_in others (place + 1) ones

-- by how many seconds the wait has become less, or more
abbrev pub difference : Direction → Change → ℕ
difference Less change = change.before.wait - change.after.wait
difference More change = change.after.wait - change.before.wait

abbrev pub has_changed : Direction → Change → Bool
has_changed direction change = nat_lt 0 (difference direction change)

-- the greater change goes before the smaller one, and of changes alike the one of the lower place
abbrev pub goes_before : Direction → Change → Change → Bool
goes_before direction one other =
    nat_lt (difference direction other) (difference direction one)
    || (nat_eq (difference direction other) (difference direction one) && nat_lt one.place other.place)

-- the first so many of those that have changed in a direction, in that order
abbrev pub AreMostChanged : Direction → ℕ → List Change → List Change → Type 0
AreMostChanged direction most changes first = (ordered : List Change)
    × IsPermutation (filter (has_changed direction) changes) ordered × IsSortedBy (goes_before direction) ordered
    × (first ≡ take most ordered)
