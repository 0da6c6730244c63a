-- What each step on the lock's words tells.
use Rattle.std.specs.Prelude.{◌≡◌, ◌≢◌, ℕ, ◌+◌, ◌*◌, ◌^◌, ◌<◌, ◌≤◌, true, false, nat_lt, if◌then◌else◌, List, [], ◌∷◌, ◌++◌, length, Option, Some, None, IfSome}
use Rattle.atomic_table.specs.Table.{Me, Step, rest}
use Rattle.turn_lock.specs.declared.view.View.{View}
use Rattle.turn_lock.specs.declared.view.Claim.{Claim}
use Rattle.turn_lock.specs.declared.view.Kind.TheVariants.{Look, TakeWon, TakeLost, NumberLook, NumberWon, NumberLost}
use Rattle.turn_lock.specs.Views.{StartsWith, IsSettled, bearing, found_word}

-- a seat's view, with the slots that it has out
abbrev pub Seated : Type 0 → Type 0 → Type 0
Seated B E = Me (Option B) (View B E)

-- the claims of a view when the entries that bear its own number are these of all entries
abbrev pub claims_left : {E : Type 0} → (E → ℕ) → List E → List (Claim E) → List (Claim E)
claims_left bearer history [] = []
claims_left bearer history (claim ∷ claims) =
    record { number = claim.number; entries = bearing bearer claim.number history } ∷ claims

-- the longer of two beginnings
abbrev pub longer : {E : Type 0} → List E → List E → List E
longer seen other = if nat_lt (length seen) (length other) then other else seen

-- the entries of the value that was taken last
abbrev pub entries_of_slot : {B E : Type 0} → (B → List E) → Option B → List E
entries_of_slot entries (Some value) = entries value
entries_of_slot entries None = []

abbrev pub entries_out : {B E : Type 0} → (B → List E) → List (ℕ × Option B) → List E
entries_out entries [] = []
entries_out entries (slot ∷ slots) = entries_of_slot entries slot.1

module _ {B E : Type 0} where
  -- the first word was read: the whole history was seen then, which has half as many entries as it tells
  pub record Looked (bearer : E → ℕ) (before : Seated B E) (word : ℕ) (after : Seated B E) : Type 0 where
    pub out : ℕ
    pub one_turn : out ≤ 1
    pub more : StartsWith after.0.seen before.0.seen
    pub count : word ≡ 2 * length after.0.seen + out
    pub settled : IsSettled bearer after.0
    pub view : after.0 ≡ record before.0 { seen = after.0.seen; found = before.0.found ++ found_word Look word }
    pub slots : after.1 ≡ before.1

  -- the turn was taken, with the value
  pub record TookTurn (entries_of : B → List E) (bearer : E → ℕ) (begins_as : B → B → Type 0) (before : Seated B E)
      (word : ℕ) (after : Seated B E) : Type 0 where
    pub value : B
    pub more : StartsWith after.0.seen before.0.seen
    pub entries : entries_of value ≡ after.0.seen
    pub begins : IfSome before.0.first (λ first. begins_as first value)
    pub count : word ≡ 2 * length after.0.seen
    pub short : length after.0.seen < 2 ^ 62
    pub settled : IsSettled bearer after.0
    pub view : after.0 ≡ record before.0 {
      seen = after.0.seen;
      turn = true;
      found = before.0.found ++ found_word TakeWon word;
    }
    pub slots : after.1 ≡ (0, Some value) ∷ before.1

  -- the first word was to become odd where it was as expected
  abbrev pub Takes : (B → List E) → (E → ℕ) → (B → B → Type 0) → Step (Option B) → Seated B E → ℕ → Seated B E
      → Type 0
  Takes entries bearer begins_as step before word after =
      (word ≡ step.first → TookTurn entries bearer begins_as before word after)
      × (word ≢ step.first
      → after ≡ (record before.0 { found = before.0.found ++ found_word TakeLost word }, before.1))

  -- the view that is left when the turn is given back with these entries
  abbrev pub view_left : (E → ℕ) → List E → View B E → View B E
  view_left bearer history view =
      record view { seen = history; turn = false; claims = claims_left bearer history view.claims }

  -- the turn was given back, with the value that was out
  abbrev pub GaveBack : (B → List E) → (E → ℕ) → Seated B E → Seated B E → Type 0
  GaveBack entries bearer before after =
      (after ≡ (view_left bearer (entries_out entries before.1) before.0, rest before.1)) × IsSettled bearer after.0

  -- the second word was read, which is no more than there are numbers
  abbrev pub CountedPasses : Seated B E → ℕ → Seated B E → Type 0
  CountedPasses before word after =
      (after ≡ (record before.0 { found = before.0.found ++ found_word NumberLook word }, before.1))
      × (word ≤ 2 ^ 32)

  -- a number was taken, by a pass without one, where the second word was as expected
  abbrev pub TakesNumber : (E → ℕ) → Step (Option B) → Seated B E → ℕ → Seated B E → Type 0
  TakesNumber bearer step before word after =
      (word ≡ step.first → (after ≡ (
        record before.0 {
          claims = record { number = word; entries = [] } ∷ [];
          found = before.0.found ++ found_word NumberWon word;
        },
        before.1,
      )) × (before.0.told ≡ [] → IsSettled bearer after.0))
      × (word ≢ step.first
      → after ≡ (record before.0 { found = before.0.found ++ found_word NumberLost word }, before.1))

  -- a view without a number, which has seen as much
  abbrev pub unnumbered : View B E → View B E
  unnumbered view = record { first = view.first; seen = view.seen; told = []; claims = []; turn = false; found = [] }

  -- a view that has taken in another
  abbrev pub joined : View B E → View B E → View B E
  joined view other = record {
    first = view.first;
    seen = longer view.seen other.seen;
    told = view.seen ∷ other.seen ∷ (view.told ++ other.told);
    claims = view.claims ++ other.claims;
    turn = view.turn;
    found = view.found ++ other.found;
  }

  -- a view that knows nothing
  abbrev pub blank : View B E
  blank = record { first = None; seen = []; told = []; claims = []; turn = false; found = [] }
