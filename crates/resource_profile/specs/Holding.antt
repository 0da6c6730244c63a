-- The reserve: which candidates there are, and which of them are held. Of the proof alone: what the loops keep.
use Rattle.std.specs.Prelude.{◌≡◌, ◌≢◌, ℕ, ◌≤◌, ◌<◌, ◌⊎◌, List, length, slice_index, sum, count_by, nat_lt, map, All, AllPairs, Contains}
use Rattle.std.specs.List.{AllWithin, HoldsAt}
use Rattle.std.specs.List.Sorted.{IsNonDecreasingBy}
use Rattle.resource_profile.specs.declared.reserve.Candidate.{Candidate}
use Rattle.resource_profile.specs.declared.reserve.Reserve.{Reserve}
use Rattle.resource_profile.specs.Sets.{capacity}

abbrev pub candidate_places : List Candidate → List ℕ
candidate_places candidates = map (λ (one : Candidate). one.place) candidates

-- a candidate is a place from `required` on, and before `end`, with what it can give, a task at least
pub record IsCandidate (caps : List ℕ) (required end : ℕ) (one : Candidate) : Type 0 where
  pub tasks : one.tasks ≡ capacity caps one.place
  pub giving : 1 ≤ one.tasks
  pub low : required ≤ one.place
  pub high : one.place < end

-- the candidates are the places from `required` on, and before `end`, that can give a task, each once
pub record AreCandidates (caps : List ℕ) (required end : ℕ) (candidates : List Candidate) : Type 0 where
  pub each : All (IsCandidate caps required end) candidates
  pub all : (place : ℕ) → required ≤ place → place < end → 1 ≤ capacity caps place
      → Contains (candidate_places candidates) place
  pub once : AllPairs (λ one other. one ≢ other) (candidate_places candidates)

-- some candidate from `low` on is the place
pub record IsCandidateFrom (candidates : List Candidate) (low place : ℕ) : Type 0 where
  pub index : ℕ
  pub low_index : low ≤ index
  pub high_index : index < length candidates
  pub is : HoldsAt (λ (one : Candidate). one.place ≡ place) candidates index

-- how many places are held
abbrev pub held_count : List ℕ → ℕ
held_count held = count_by (λ tasks. nat_lt 0 tasks) held

-- the place is held, or it can give no more than each candidate from `least` on
abbrev pub IsHeldOrSmall : List ℕ → List Candidate → ℕ → List ℕ → ℕ → Type 0
IsHeldOrSmall caps candidates least held place =
    (slice_index held place ≡ capacity caps place)
    ⊎ ((slice_index held place ≡ 0)
    × AllWithin (λ (one : Candidate). capacity caps place ≤ one.tasks) candidates least (length candidates))

-- what is held when the places before `from` are passed, and no candidate before `least` is held
pub record IsHolding (caps : List ℕ) (from : ℕ) (candidates : List Candidate) (least : ℕ) (held : List ℕ) : Type 0 where
  pub same_length : length held ≡ length caps
  pub sorted : IsNonDecreasingBy (λ (one : Candidate). one.tasks) candidates
  pub each : All (IsCandidate caps 0 (length caps)) candidates
  pub passed : (place : ℕ) → place < from → slice_index held place ≡ 0
  pub ahead : (place : ℕ) → from ≤ place → IsHeldOrSmall caps candidates least held place
  pub known : (place : ℕ) → 1 ≤ slice_index held place → IsCandidateFrom candidates least place

-- the reserve when the places before `from` are passed
pub record IsReserve (caps : List ℕ) (from : ℕ) (reserve : Reserve) : Type 0 where
  pub holding : IsHolding caps from reserve.candidates.items reserve.least reserve.held.items
  pub count : reserve.count ≡ held_count reserve.held.items
  pub tasks : reserve.tasks ≡ sum reserve.held.items

-- each place from `from` on is held that can give a task
abbrev pub AreAllHeld : List ℕ → ℕ → List ℕ → Type 0
AreAllHeld caps from held = (place : ℕ) → from ≤ place → slice_index held place ≡ capacity caps place

-- as many places are held as there may be, or all
abbrev pub IsFull : List ℕ → ℕ → ℕ → List ℕ → Type 0
IsFull caps from room held = (held_count held ≡ room) ⊎ AreAllHeld caps from held
