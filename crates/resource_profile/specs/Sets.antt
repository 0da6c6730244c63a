-- Sets of places: which fit a need, which of these comes first, and how the tasks are dealt to its places.
use Rattle.std.specs.Prelude.{◌≡◌, ℕ, ◌+◌, ◌-◌, ◌≤◌, ◌<◌, min, List, [], ◌∷◌, length, slice_index, sum_by, map, All, Contains}
use Rattle.std.specs.Ordering.{nat_cmp}
use Rattle.std.specs.declared.cmp.Ordering.TheVariants.{Less}
use Rattle.std.specs.Cmp.Lexicographic.{slice_cmp}
use Rattle.resource_profile.specs.declared.picking.Need.{Need}
use Rattle.resource_profile.specs.declared.picking.Dealt.{Dealt}

-- how many tasks the place can give; there are none past the last place
abbrev pub capacity : List ℕ → ℕ → ℕ
capacity caps place = slice_index caps place

-- A set is the list of its places in order: each is above the one before it, and the first is at least `low`.
abbrev pub IsRisingFrom : ℕ → List ℕ → Type 0
IsRisingFrom low [] = Unit {0}
IsRisingFrom low (place ∷ later) = (low ≤ place) × IsRisingFrom (place + 1) later

-- how many tasks the places of a set can give together
abbrev pub tasks_given : List ℕ → List ℕ → ℕ
tasks_given caps set = sum_by (λ place. capacity caps place) set

-- The set fits the need: it holds the required places, each of its places can give a task, together they can give all,
-- and it has at most as many places as there are tasks, and from `least` to `most`.
pub record Fits (caps : List ℕ) (need : Need) (set : List ℕ) : Type 0 where
  pub rising : IsRisingFrom 0 set
  pub required : (place : ℕ) → place < need.required → Contains set place
  pub giving : All (λ place. 1 ≤ capacity caps place) set
  pub enough : need.tasks ≤ tasks_given caps set
  pub at_most_tasks : length set ≤ need.tasks
  pub at_least : need.least ≤ length set
  pub at_most : length set ≤ need.most

-- one set is before the other in dictionary order, where a proper beginning of a list is before it
abbrev pub IsBefore : List ℕ → List ℕ → Type 0
IsBefore one other = slice_cmp nat_cmp one other ≡ Less

-- of all sets that fit, the one that none is before
pub record IsChosen (caps : List ℕ) (need : Need) (set : List ℕ) : Type 0 where
  pub fits : Fits caps need set
  pub first : (other : List ℕ) → Fits caps need other → ¬ IsBefore other set

-- The tasks dealt to the places in order: each gets the lesser of what it can give and what remains after one task for
-- each later place.
abbrev pub dealt : List ℕ → ℕ → List ℕ → List Dealt
dealt caps tasks [] = []
dealt caps tasks (place ∷ later) =
    let given = min (capacity caps place) (tasks - length later) in
    record { place = place; tasks = given } ∷ dealt caps (tasks - given) later

-- the places of what is dealt
abbrev pub places : List Dealt → List ℕ
places parts = map (λ (part : Dealt). part.place) parts

-- One need asks no more than the other, and its own bounds leave room for its required places. It may have as many places
-- as the other, or one for each task of its own.
pub record AsksNoMore (lesser need : Need) : Type 0 where
  pub tasks : lesser.tasks ≤ need.tasks
  pub least : lesser.least ≤ need.least
  pub most : min need.most lesser.tasks ≤ lesser.most
  pub required : lesser.required ≤ need.required
  pub room_for_least : lesser.least ≤ lesser.tasks
  pub room_for_required : lesser.required ≤ lesser.tasks
