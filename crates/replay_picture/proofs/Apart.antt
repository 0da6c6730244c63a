-- Bars that share a lane stand behind one another.
use Rattle.std.proofs.Common.{◌≡◌, ℕ, zero, suc, ◌+◌, ◌≤◌, max, Bool, true, false, ◌&&◌, nat_le, nat_lt, if◌then◌else◌, List, [], ◌∷◌, ◌++◌, Option, Some, None, slice_get, option_map, option_to_list, refl, sym, subst, inl, inr, arith, All, Contains}
use Rattle.std.proofs.lemmas.Bool.{cases_Bool, false≢true, leb-true}
use Rattle.std.proofs.lemmas.List.Elements.{All-append, All-cons, All-nil, Contains-append_cases}
use Rattle.std.proofs.lemmas.List.Kept.{AllPairs-cons}
use Rattle.std.specs.List.{AllPairs}
use Rattle.std.specs.Option.{option_map_or}
use Rattle.replay_picture.specs.Bars.{Drawn, all_drawn, drawn_of_part, drawn_on, lanes_behind_part, stay_of}
use Rattle.replay_picture.specs.Lanes.{lane_behind, lane_drawn, lanes_behind, lanes_drawn, takes, wanted_behind}
use Rattle.replay_picture.specs.Laws.{AreApart, BarsAreApart}
use Rattle.replay_picture.specs.declared.data.NodePart.{NodePart}
use Rattle.replay_picture.specs.declared.data.Period.{Period}
use Rattle.replay_picture.specs.declared.data.PictureBar.{PictureBar}
use Rattle.replay_picture.specs.declared.lanes.Lane.{Lane}
use Rattle.replay_picture.specs.declared.lanes.Stay.{Stay}

-- until when the lane at a place is busy
abbrev busy : List Lane → ℕ → ℕ
busy [] place = 0
busy (lane ∷ lanes) zero = lane.busy_until
busy (lane ∷ lanes) (suc place) = busy lanes place

second_true : (a b : Bool) → (a && b) ≡ true → b ≡ true
second_true true b both = both
second_true false b both = absurd (false≢true both)

first_true : (a b : Bool) → (a && b) ≡ true → a ≡ true
first_true true b both = refl
first_true false b both = both

is_taken : (stay : Stay) (wanted : ℕ) (lane : Lane) → takes stay wanted lane ≡ true
    → lane_behind stay wanted lane
    ≡ record { busy_until = max lane.busy_until stay.end; drawn_until = max lane.drawn_until stay.right }
is_taken stay wanted lane is = rw is refl

-- no lane is free again before it was
lane_stays_busy : (stay : Stay) (wanted : ℕ) (lane : Lane) → lane.busy_until ≤ (lane_behind stay wanted lane).busy_until
lane_stays_busy stay wanted lane = elim (cases_Bool (takes stay wanted lane)) [
  | inl is ↦ rw is (omega arith)
  | inr is ↦ rw is (omega arith)
]

stays_busy : (stay : Stay) (wanted : ℕ) (lanes : List Lane) (place : ℕ)
    → busy lanes place ≤ busy (lanes_behind stay wanted lanes) place
stays_busy stay wanted [] place = omega arith
stays_busy stay wanted (lane ∷ lanes) zero = lane_stays_busy stay wanted lane
stays_busy stay wanted (lane ∷ lanes) (suc place) = stays_busy stay (wanted_behind stay wanted lane) lanes place

-- A lane that a run is drawn in was free at its start, and is busy until its end.
record IsHeld (stay : Stay) (wanted from place : ℕ) (lanes : List Lane) : Type 0 where
  offset : ℕ
  there : place ≡ from + offset
  free : busy lanes offset ≤ stay.start
  kept : stay.end ≤ busy (lanes_behind stay wanted lanes) offset

one_further : (stay : Stay) (wanted from place : ℕ) (lane : Lane) (lanes : List Lane)
    → IsHeld stay (wanted_behind stay wanted lane) (from + 1) place lanes → IsHeld stay wanted from place (lane ∷ lanes)
one_further stay wanted from place lane lanes other = record {
  offset = suc other.offset;
  there = omega (arith, other.there);
  free = other.free;
  kept = other.kept;
}

alone : (test : Bool) (from place : ℕ) → Contains (if test then from ∷ [] else []) place
    → (test ≡ true) × (place ≡ from)
alone true from place (zero, within, is) = (refl, sym is)
alone true from place (suc k, within, is) = absurd (omega (arith, within))
alone false from place (k, within, is) = absurd (omega (arith, within))

here : (stay : Stay) (wanted from place : ℕ) (lane : Lane) (lanes : List Lane) → takes stay wanted lane ≡ true
    → place ≡ from → IsHeld stay wanted from place (lane ∷ lanes)
here stay wanted from place lane lanes is at = record {
  offset = zero;
  there = omega (arith, at);
  free = leb-true lane.busy_until stay.start (second_true (nat_lt 0 wanted) (nat_le lane.busy_until stay.start) is);
  kept = subst (λ (l : Lane). stay.end ≤ l.busy_until) (sym (is_taken stay wanted lane is)) (omega arith);
}

is_held : (stay : Stay) (wanted from place : ℕ) (lanes : List Lane)
    → Contains (lanes_drawn stay wanted from lanes) place → IsHeld stay wanted from place lanes
is_held stay wanted from place [] (k, within, is) = absurd (omega (arith, within))
is_held stay wanted from place (lane ∷ lanes) drawn =
    elim (Contains-append_cases (lane_drawn stay wanted from lane)
    (lanes_drawn stay (wanted_behind stay wanted lane) (from + 1) lanes) place drawn) [
      | inl one ↦
          let both = alone (takes stay wanted lane && nat_lt lane.drawn_until stay.right) from place one in
          here stay wanted from place lane lanes
          (first_true (takes stay wanted lane) (nat_lt lane.drawn_until stay.right) both.0) both.1
      | inr others ↦ one_further stay wanted from place lane lanes
          (is_held stay (wanted_behind stay wanted lane) (from + 1) place lanes others)
    ]

-- from a place on, as from the first
from_first : (stay : Stay) (wanted place : ℕ) (lanes : List Lane) → IsHeld stay wanted 0 place lanes
    → (busy lanes place ≤ stay.start) × (stay.end ≤ busy (lanes_behind stay wanted lanes) place)
from_first stay wanted place lanes held =
    let at : held.offset ≡ place = omega (arith, held.there) in (
      subst (λ k. busy lanes k ≤ stay.start) at held.free,
      subst (λ k. stay.end ≤ busy (lanes_behind stay wanted lanes) k) at held.kept,
    )

-- no lane is free again before it was, behind any part
stays_busy_by : (period : Period) (lanes : List Lane) (part : NodePart) (place : ℕ) (bar : Option PictureBar)
    → busy lanes place
    ≤ busy (option_map_or (λ one. lanes_behind (stay_of period one) part.processors lanes) bar lanes) place
stays_busy_by period lanes part place None = omega arith
stays_busy_by period lanes part place (Some bar) = stays_busy (stay_of period bar) part.processors lanes place

starts_are : (period : Period) (bar : PictureBar) → ((stay_of period bar).start ≡ bar.start) × ((stay_of period bar).end ≡ bar.end)
unfolding stay_of
starts_are period bar = (refl, refl)

-- what is drawn in a lane that is busy until a moment doesn't begin before it
abbrev BeginsAfter : ℕ → ℕ → Drawn → Type 0
BeginsAfter moment place drawn = Contains drawn.places place → moment ≤ drawn.bar.start

part_begins : (period : Period) (lanes : List Lane) (part : NodePart) (moment place : ℕ) (bar : Option PictureBar)
    → moment ≤ busy lanes place
    → All (BeginsAfter moment place) (option_to_list (option_map (drawn_on period lanes part) bar))
part_begins period lanes part moment place None late = All-nil (BeginsAfter moment place)
part_begins period lanes part moment place (Some bar) late =
    let begins : BeginsAfter moment place (drawn_on period lanes part bar) = λ drawn.
    let held = from_first (stay_of period bar) part.processors place lanes
    (is_held (stay_of period bar) part.processors 0 place lanes drawn) in
    omega (arith, held.0, late, (starts_are period bar).0) in
    All-cons (BeginsAfter moment place) (drawn_on period lanes part bar) [] begins (All-nil (BeginsAfter moment place))

all_begin : (period : Period) (bars : List PictureBar) (lanes : List Lane) (parts : List NodePart) (moment place : ℕ)
    → moment ≤ busy lanes place → All (BeginsAfter moment place) (all_drawn period bars lanes parts)
all_begin period bars lanes [] moment place late = All-nil (BeginsAfter moment place)
all_begin period bars lanes (part ∷ parts) moment place late =
    let later : moment ≤ busy (lanes_behind_part period bars lanes part) place =
    omega (arith, late, stays_busy_by period lanes part place (slice_get bars part.bar)) in
    All-append (BeginsAfter moment place) (drawn_of_part period bars lanes part)
    (all_drawn period bars (lanes_behind_part period bars lanes part) parts)
    (part_begins period lanes part moment place (slice_get bars part.bar) late)
    (all_begin period bars (lanes_behind_part period bars lanes part) parts moment place later)

-- one that is drawn, and those behind it
all_behind : (period : Period) (bars : List PictureBar) (lanes : List Lane) (part : NodePart) (parts : List NodePart)
    (bar : PictureBar)
    → All (AreApart (drawn_on period lanes part bar))
    (all_drawn period bars (lanes_behind (stay_of period bar) part.processors lanes) parts)
all_behind period bars lanes part parts bar k d within place one other =
    let held = from_first (stay_of period bar) part.processors place lanes
    (is_held (stay_of period bar) part.processors 0 place lanes one) in
    let busy_there : bar.end ≤ busy (lanes_behind (stay_of period bar) part.processors lanes) place =
    omega (arith, held.1, (starts_are period bar).1) in
    all_begin period bars (lanes_behind (stay_of period bar) part.processors lanes) parts bar.end place busy_there k d within
    other

first_apart : (period : Period) (bars : List PictureBar) (lanes : List Lane) (part : NodePart) (parts : List NodePart)
    (bar : Option PictureBar)
    → AllPairs AreApart
    (all_drawn period bars (option_map_or (λ one. lanes_behind (stay_of period one) part.processors lanes) bar lanes) parts)
    → AllPairs AreApart (option_to_list (option_map (drawn_on period lanes part) bar)
    ++ all_drawn period bars (option_map_or (λ one. lanes_behind (stay_of period one) part.processors lanes) bar lanes) parts)
first_apart period bars lanes part parts None others = others
first_apart period bars lanes part parts (Some bar) others =
    AllPairs-cons AreApart (drawn_on period lanes part bar)
    (all_drawn period bars (lanes_behind (stay_of period bar) part.processors lanes) parts)
    (all_behind period bars lanes part parts bar) others

pub bars_are_apart : BarsAreApart
bars_are_apart period bars lanes [] = λ i j d before within. absurd (omega (arith, within))
bars_are_apart period bars lanes (part ∷ parts) =
    first_apart period bars lanes part parts (slice_get bars part.bar)
    (bars_are_apart period bars (lanes_behind_part period bars lanes part) parts)
