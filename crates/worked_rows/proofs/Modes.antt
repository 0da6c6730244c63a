-- Where a line stands behind a text, and what a byte does outside quotes.
use Rattle.std.proofs.Common.{ℕ, suc, ◌≡◌, ◌||◌, ◌==◌, not, if◌then◌else◌, Bool, true, false, None, Some, List, [], ◌∷◌, refl, sym}
use Rattle.line_words.specs.Words.{is_blank, mode_outside, mode_after, written_outside, opens, may_end, open_from, open_place, words_from}

-- Where a line may stand, each place named by a byte that leads to it: the crate of the words keeps its names of these.
abbrev domain : {A B : Type 0} → (A → B) → Type 0
domain {A} f = A

abbrev pub Mode : Type 0
Mode = domain words_from

abbrev pub between : Mode
between = mode_outside 32

abbrev pub within : Mode
within = mode_outside 97

abbrev pub in_escape : Mode
in_escape = mode_outside 92

abbrev pub in_single : Mode
in_single = mode_outside 39

abbrev pub in_double : Mode
in_double = mode_outside 34

abbrev pub in_double_escape : Mode
in_double_escape = mode_after (mode_outside 34) 92

abbrev pub end_mode : Mode → List ℕ → Mode
end_mode mode [] = mode
end_mode mode (b ∷ text) = end_mode (mode_after mode b) text

-- nothing is open exactly where the line may end
closed-from : (text : List ℕ) (mode : Mode) (opened place : ℕ) → may_end (end_mode mode text) ≡ true
    → open_from mode opened place text ≡ None
closed-from [] mode opened place h = rw h refl
closed-from (b ∷ text) mode opened place h = closed-from text (mode_after mode b)
    (if opens mode b then place else opened) (suc place) h

pub closed : (line : List ℕ) → may_end (end_mode between line) ≡ true → open_place line ≡ None
unfolding open_place
closed line h = closed-from line between 0 0 h

ends-from : (text : List ℕ) (mode : Mode) (opened place : ℕ) → open_from mode opened place text ≡ None
    → may_end (end_mode mode text) ≡ true
ends-from [] mode opened place h = by_end (may_end mode) h where
  by_end : (t : Bool) → (if t then None else Some opened) ≡ None → t ≡ true
  by_end true e = refl
  by_end false e = cc
ends-from (b ∷ text) mode opened place h = ends-from text (mode_after mode b)
    (if opens mode b then place else opened) (suc place) h

pub ends : (line : List ℕ) → open_place line ≡ None → may_end (end_mode between line) ≡ true
unfolding open_place
ends line h = ends-from line between 0 0 h

pub not-true : (t : Bool) → not t ≡ true → t ≡ false
not-true true h = sym h
not-true false h = refl

pub neither-left : (a b : Bool) → (a || b) ≡ false → a ≡ false
neither-left true b h = h
neither-left false b h = refl

pub neither-right : (a b : Bool) → (a || b) ≡ false → b ≡ false
neither-right true b h = cc
neither-right false b h = h

-- a blank, which adds nothing to a word
pub record IsBlank (b : ℕ) : Type 0 where
  pub outside : mode_outside b ≡ between
  pub adds : written_outside b ≡ []

pub blank : (b : ℕ) → is_blank b ≡ true → IsBlank b
blank b h = record { outside = rw h refl; adds = rw h refl }

-- a byte that stands for itself outside quotes
pub record IsBare (b : ℕ) : Type 0 where
  pub blank : is_blank b ≡ false
  pub outside : mode_outside b ≡ within
  pub adds : written_outside b ≡ b ∷ []

unmarked : (b : ℕ) → is_blank b ≡ false → (single double slash : Bool) → (single || double || slash) ≡ false
    → (if is_blank b then between else
    (if single then in_single else (if double then in_double else (if slash then in_escape else within))))
    ≡ within
unmarked b e false false false none = rw e refl
unmarked b e false false true none = cc
unmarked b e false true slash none = cc
unmarked b e true double slash none = cc

pub bare : (b : ℕ) → (is_blank b || (b == 39 || b == 34 || b == 92)) ≡ false → IsBare b
bare b h =
    let apart : is_blank b ≡ false = neither-left (is_blank b) (b == 39 || b == 34 || b == 92) h in
    let none : (b == 39 || b == 34 || b == 92) ≡ false = neither-right (is_blank b) (b == 39 || b == 34 || b == 92) h in
    record { blank = apart; outside = unmarked b apart (b == 39) (b == 34) (b == 92) none; adds = rw h refl }
