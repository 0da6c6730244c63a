-- Passes, as contracts see them.
use Rattle.std.specs.Prelude.{◌≡◌, ◌≢◌, ◌⊎◌, ℕ, ◌%◌, ◌^◌, ◌<◌, Bool, List, [], ◌∷◌, ◌++◌, length, All, Option, Some, IfSome}
use Rattle.atomic_table.specs.Seated.{TableId}
use Rattle.turn_lock.specs.declared.view.View.{View}
use Rattle.turn_lock.specs.declared.view.Claim.{Claim}
use Rattle.turn_lock.specs.declared.view.Found.{Found}
use Rattle.turn_lock.specs.declared.view.Kind.TheVariants.{Look, TakeWon, TakeLost, NumberLook, NumberWon, NumberLost}
use Rattle.turn_lock.specs.declared.refusal.SplitRefusal.{SplitRefusal}
use Rattle.turn_lock.specs.declared.refusal.SplitRefusal.TheVariants.{Spent, Raced}
use Rattle.turn_lock.specs.Views.{StartsWith, Differ, IsSettled, bearing, found_word}
use Rattle.turn_lock.specs.Steps.{Seated}

-- A pass: which lock's it is, the value with which that lock was made, its number, the beginning of the history that it
-- has seen, the entries of these that bear its number, the numbers of the passes that it has taken in, each with its
-- entries, and the words that its steps found.
pub record PassView (B E : Type 0) : Type 0 where
  pub lock : TableId
  pub first : Option B
  pub number : ℕ
  pub seen : List E
  pub mine : List E
  pub taken : List (Claim E)
  pub found : List Found

-- the entries of the first claim
abbrev pub own_entries : {E : Type 0} → List (Claim E) → List E
own_entries [] = []
own_entries (claim ∷ claims) = claim.entries

-- the claims behind the first
abbrev pub other_claims : {E : Type 0} → List (Claim E) → List (Claim E)
other_claims [] = []
other_claims (claim ∷ claims) = claims

module _ {B E : Type 0} where
  -- the pass of a view, by its number
  abbrev pub pass_of : TableId → ℕ → View B E → PassView B E
  pass_of lock number view = record {
    lock = lock;
    first = view.first;
    number = number;
    seen = view.seen;
    mine = own_entries view.claims;
    taken = other_claims view.claims;
    found = view.found;
  }

  -- what a seat is that has the turn or not, and nothing else out than this
  pub record IsSeated (bearer : E → ℕ) (number : ℕ) (has_turn : Bool) (out : List (ℕ × Option B))
      (seated : Seated B E) : Type 0 where
    pub slots : seated.1 ≡ out
    pub first : (value : B) × (seated.0.first ≡ Some value)
    pub turn : seated.0.turn ≡ has_turn
    pub claims : (entries : List E) × (others : List (Claim E))
        × (seated.0.claims ≡ record { number = number; entries = entries } ∷ others)
    pub settled : IsSettled bearer seated.0

  -- What every pass knows of itself: the value with which its lock was made; its own entries are those seen that bear
  -- its number, and so it is with the passes that it has taken in; all these numbers differ.
  pub record IsKnown (bearer : E → ℕ) (pass : PassView B E) : Type 0 where
    pub first : (value : B) × (pass.first ≡ Some value)
    pub mine : pass.mine ≡ bearing bearer pass.number pass.seen
    pub taken : All (λ claim. claim.entries ≡ bearing bearer claim.number pass.seen) pass.taken
    pub differ : Differ (record { number = pass.number; entries = pass.mine } ∷ pass.taken)

  -- A pass has seen more of the history, in which no further entry bears its number, and found more words.
  pub record SeesMore (old new : PassView B E) : Type 0 where
    pub seen : StartsWith new.seen old.seen
    pub found : StartsWith new.found old.found
    pub same : new ≡ record old { seen = new.seen; found = new.found }

  -- The turn was taken: the value has the whole history, which the pass has seen now.
  pub record HasTurn (entries_of : B → List E) (begins_as : B → B → Type 0) (pass turn : PassView B E) (value : B)
      : Type 0 where
    pub sees : SeesMore pass turn
    pub entries : entries_of value ≡ turn.seen
    pub short : length turn.seen < 2 ^ 62
    pub begins : IfSome turn.first (λ first. begins_as first value)

  -- Somebody else has the turn, by the word that was looked at, which is odd; or this word was even, and was another
  -- one when the turn was to be taken.
  abbrev pub IsBusyBy : PassView B E → PassView B E → ℕ → ℕ → Type 0
  IsBusyBy old new looked word =
      ((looked % 2 ≡ 1) × (word ≡ looked) × (new.found ≡ old.found ++ found_word Look looked))
      ⊎ ((looked % 2 ≡ 0) × (word ≢ looked)
      × (new.found ≡ (old.found ++ found_word Look looked) ++ found_word TakeLost word))

  -- The turn was there, by the word that was looked at, which is even, and was the same when the turn was taken.
  abbrev pub IsFreeBy : PassView B E → PassView B E → Type 0
  IsFreeBy old new = (word : ℕ) × (word % 2 ≡ 0)
      × (new.found ≡ (old.found ++ found_word Look word) ++ found_word TakeWon word)

  -- the value has the entries that were found, and behind them some that bear the number of the pass
  abbrev pub Adds : (B → List E) → (E → ℕ) → PassView B E → B → Type 0
  Adds entries_of bearer turn value =
      (tail : List E) × (entries_of value ≡ turn.seen ++ tail) × All (λ entry. bearer entry ≡ turn.number) tail

  -- a pass that has seen all entries of a value
  abbrev pub seen_all : (B → List E) → (E → ℕ) → PassView B E → B → PassView B E
  seen_all entries_of bearer turn value = record turn {
    seen = entries_of value;
    mine = bearing bearer turn.number (entries_of value);
  }

  -- a pass that has found more words
  abbrev pub finds : PassView B E → List Found → PassView B E
  finds pass words = record pass { found = pass.found ++ words }

  -- a pass that has seen as much as another, and made nothing
  abbrev pub another : PassView B E → ℕ → PassView B E
  another pass number = record {
    lock = pass.lock;
    first = pass.first;
    number = number;
    seen = pass.seen;
    mine = [];
    taken = [];
    found = found_word NumberLook number ++ found_word NumberWon number;
  }

  -- why no number was given, as the words say that were found
  abbrev pub IsRefusedBy : PassView B E → PassView B E → SplitRefusal → Type 0
  IsRefusedBy old new (Spent made) = (made ≡ 2 ^ 32) × (new ≡ finds old (found_word NumberLook made))
  IsRefusedBy old new (Raced looked word) =
      (word ≢ looked) × (new ≡ finds old (found_word NumberLook looked ++ found_word NumberLost word))

  -- A pass has taken in another one: it has seen what both had seen, and has the other's entries beside its own.
  pub record Meets (old other new : PassView B E) : Type 0 where
    pub seen : StartsWith new.seen old.seen
    pub seen_too : StartsWith new.seen other.seen
    pub same : new ≡ record old {
      seen = new.seen;
      taken = old.taken ++ record { number = other.number; entries = other.mine } ∷ other.taken;
      found = new.found;
    }
