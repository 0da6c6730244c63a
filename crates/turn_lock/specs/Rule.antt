-- The rule of a lock, which holds between any two steps of any threads.
use Rattle.std.specs.Prelude.{◌≡◌, ℕ, ◌+◌, ◌*◌, ◌^◌, ◌<◌, ◌≤◌, true, false, List, [], ◌∷◌, length, slice_index, slice_get, All, Option, Some, None, IfSome}
use mathlib.Core.Option.{some, none}
use lib.ListN.{get_elem?}
use Rattle.atomic_table.specs.Table.{State}
use Rattle.turn_lock.specs.declared.view.View.{View}
use Rattle.turn_lock.specs.declared.view.Claim.{Claim}
use Rattle.turn_lock.specs.Views.{StartsWith, bearing}

-- What is true of a view, where the lock was made with this value, the history is this, the turn is out or not, and
-- each number is a seat's claim, at a place among its claims: what it has seen and was told of are beginnings of the
-- history; a view with the turn is the holder's, and has seen all; its claims have just the entries that bear their
-- numbers.
pub record Knows {B E : Type 0} (bearer : E → ℕ) (value : B) (history : List E) (out holder : ℕ)
    (owner : ℕ → Option (ℕ × ℕ)) (seat : ℕ) (view : View B E) : Type 0 where
  pub first : IfSome view.first (λ first. first ≡ value)
  pub seen : StartsWith history view.seen
  pub told : All (λ told. StartsWith history told) view.told
  pub turn : view.turn ≡ true → (out ≡ 1) × (seat ≡ holder) × (view.seen ≡ history)
  pub claims : (place : ℕ) (claim : Claim E) → slice_get view.claims place ≡ Some claim
      → (owner claim.number ≡ Some (seat, place)) × (claim.entries ≡ bearing bearer claim.number history)

-- There is one history. The first word is twice its length, and one more while the turn is out: then the slot is empty
-- and one view, the holder's, has the turn; else the value is at home, its entries are the history, and no view has the
-- turn. The second word is how many numbers were given: of the others nobody has one, and no entry bears one.
pub record Ruled {B E : Type 0} (entries : B → List E) (bearer : E → ℕ) (begins_as : B → B → Type 0) (first : B)
    (s : State (Option B) (View B E)) : Type 0 where
  pub history : List E
  pub out : ℕ
  pub holder : ℕ
  pub owner : ℕ → Option (ℕ × ℕ)
  pub wide : length s.words ≡ 2
  pub deep : length s.homes ≡ 1
  pub one_turn : out ≤ 1
  pub word : slice_index s.words 0 ≡ 2 * length history + out
  pub short : length history < 2 ^ 62
  pub home : out ≡ 0
      → (value : B) × (get_elem? s.homes 0 ≡ some (some (Some value))) × (entries value ≡ history)
      × begins_as first value
  pub away : out ≡ 1 → get_elem? s.homes 0 ≡ some none
  pub held : out ≡ 1 → (view : View B E) × (get_elem? s.views holder ≡ some view) × (view.turn ≡ true)
  pub given : slice_index s.words 1 ≤ 2 ^ 32
  pub not_given : (number : ℕ) → slice_index s.words 1 ≤ number
      → (owner number ≡ None) × (bearing bearer number history ≡ [])
  pub each_seat : (seat : ℕ) (view : View B E) → get_elem? s.views seat ≡ some view
      → Knows bearer first history out holder owner seat view

-- the view of a pass with this number that has seen nothing
abbrev pub new_view : {B E : Type 0} → B → ℕ → View B E
new_view value number = record {
  first = Some value;
  seen = [];
  told = [];
  claims = record { number = number; entries = [] } ∷ [];
  turn = false;
  found = [];
}

-- the view of the first pass
abbrev pub first_view : {B E : Type 0} → B → View B E
first_view value = new_view value 0
