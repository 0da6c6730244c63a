-- Who goes for a job that ranks higher. Those that might go stand in a list, the lowest in rank first; each is named by
-- its place in it.
use Rattle.std.specs.Prelude.{ℕ, ◌+◌, zero, suc, Bool, not, nat_eq, if◌then◌else◌, List, [], ◌∷◌, ◌++◌, length, find, filter, is_some, Option, option_map}
use Rattle.std.specs.List.{list_any, range_with_len}
use Rattle.resource_profile.specs.declared.NodeRoom.{NodeRoom}
use Rattle.resource_profile.specs.declared.Hold.{Hold}
use Rattle.backfill_planner.specs.declared.job.PlanJob.{PlanJob}
use Rattle.backfill_planner.specs.Plans.{placement_at}

-- whether the one at this place is among those that go
abbrev pub goes : List ℕ → ℕ → Bool
goes gone place = list_any (λ other. nat_eq other place) gone

-- the first places, so many of them
abbrev pub first_places : ℕ → List ℕ
first_places count = range_with_len 0 count

-- those that go, but for the one at this place
abbrev pub without : ℕ → List ℕ → List ℕ
without place gone = filter (λ other. not (nat_eq other place)) gone

-- what those hold that don't go; the first of them has this place
unfoldable pub kept_holds : ℕ → List (List Hold) → List ℕ → List Hold
kept_holds place [] gone = []
kept_holds place (holds ∷ later) gone =
    (if goes gone place then [] else holds) ++ kept_holds (place + 1) later gone

-- what is held once these go: what stays in any case, and what the others hold
abbrev pub held_without : List Hold → List (List Hold) → List ℕ → List Hold
held_without stay going gone = stay ++ kept_holds 0 going gone

-- once these go, some set of the job's nodes fits it at this very moment, for its whole time
unfoldable pub suffices : List NodeRoom → List Hold → List (List Hold) → PlanJob → ℕ → List ℕ → Bool
suffices rooms stay going job now gone = is_some (placement_at rooms (held_without stay going gone) job now)

-- Of so many first places, each is given back where the rest suffices, from the last to the first. Those that go from
-- behind them are `later`.
unfoldable pub needed : (List ℕ → Bool) → ℕ → List ℕ → List ℕ
needed suffice zero later = later
needed suffice (suc place) later =
    needed suffice place (if suffice (first_places place ++ later) then later else place ∷ later)

-- how many of the first places suffice, at the least; none where even all of them don't
unfoldable pub shortest : (List ℕ → Bool) → ℕ → Option ℕ
shortest suffice count = find (λ first. suffice (first_places first)) (range_with_len 0 (count + 1))

-- the places of those that go
unfoldable pub victims_of : List NodeRoom → List Hold → List (List Hold) → PlanJob → ℕ → Option (List ℕ)
victims_of rooms stay going job now =
    let suffice = suffices rooms stay going job now in
    option_map (λ first. needed suffice first []) (shortest suffice (length going))
