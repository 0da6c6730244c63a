-- Those that go: with them the job fits, and with none of them given back.
use Rattle.std.proofs.Common.{◌≡◌, ℕ, ◌≤◌, ◌<◌, zero, suc, Bool, true, false, ◌||◌, not, cond, eqb, ltb, List, [], ◌∷◌, ◌++◌, length, All, AllPairs, arith, refl, sym, ap, ◌∙◌, inl, inr, append-nil, is_some, Some, None}
use Rattle.std.proofs.lemmas.Bool.{cases_Bool, and_parts}
use Rattle.std.proofs.lemmas.Bool.Decides.{nat_tests}
use Rattle.std.proofs.lemmas.List.Elements.{All-nil, All-cons, All-weaker}
use Rattle.std.proofs.lemmas.List.Kept.{AllPairs-cons}
use Rattle.resource_profile.specs.declared.NodeRoom.{NodeRoom}
use Rattle.resource_profile.specs.declared.Hold.{Hold}
use Rattle.backfill_planner.specs.declared.job.PlanJob.{PlanJob}
use Rattle.backfill_planner.specs.Plans.{placement_at}
use Rattle.backfill_planner.specs.Placements.{FitsAt}
use Rattle.backfill_planner.specs.Sufficing.{PickLaws}
use Rattle.backfill_planner.specs.Going.{goes, first_places, without, kept_holds, held_without, suffices, needed, victims_of}
use Rattle.backfill_planner.proofs.Places.{GoToo, front-test, without-test}
use Rattle.backfill_planner.proofs.Freer.{set-fits, no-set-fits}
use Rattle.backfill_planner.proofs.GivingBack.{Grows, suffices-grows, front-more, needed-none, victims-some, victims-none}

-- the next place from the first ones or from the later ones
turned : (place : ℕ) (later : List ℕ) → GoToo (first_places (suc place) ++ later) (first_places place ++ place ∷ later)
turned place later other is =
    let was : (ltb other (suc place) || goes later other) ≡ true = sym (front-test (suc place) later other) ∙ is in
    front-test place (place ∷ later) other ∙ grind (arith, nat_tests, was)

turned-back : (place : ℕ) (later : List ℕ) → GoToo (first_places place ++ place ∷ later) (first_places (suc place) ++ later)
turned-back place later other is =
    let was : (ltb other place || (eqb place other || goes later other)) ≡ true = sym (front-test place (place ∷ later) other) ∙ is in
    front-test (suc place) later other ∙ grind (arith, nat_tests, was)

-- what doesn't suffice doesn't where fewer go
shrinks : (suffice : List ℕ → Bool) (gone more : List ℕ) → Grows suffice → GoToo gone more → suffice more ≡ false → suffice gone ≡ false
shrinks suffice gone more grows too lacks = elim (cases_Bool (suffice gone)) [
  | inr fails ↦ fails
  | inl passes ↦
      let wrong : false ≡ true = sym lacks ∙ grows gone more too passes in
      absurd cc
]

without-too : (place : ℕ) (gone more : List ℕ) → GoToo gone more → GoToo (without place gone) (without place more)
without-too place gone more too other is =
    let parts = and_parts (goes gone other) (not (eqb other place)) (sym (without-test place gone other) ∙ is) in
    without-test place more other ∙ rw (too other parts.0, parts.1) refl

without-own : (place : ℕ) (later : List ℕ) → GoToo (without place (first_places place ++ place ∷ later)) (first_places place ++ later)
without-own place later other is =
    let all = first_places place ++ place ∷ later in
    let parts = and_parts (goes all other) (not (eqb other place)) (sym (without-test place all other) ∙ is) in
    let was : (ltb other place || (eqb place other || goes later other)) ≡ true = sym (front-test place (place ∷ later) other) ∙ parts.0 in
    let differs : not (eqb other place) ≡ true = parts.1 in
    front-test place later other ∙ grind (arith, nat_tests, was, differs)

needed-enough : (suffice : List ℕ → Bool) (count : ℕ) (later : List ℕ) → Grows suffice → suffice (first_places count ++ later) ≡ true → suffice (needed suffice count later) ≡ true
unfolding needed
needed-enough suffice zero later grows enough = enough
needed-enough suffice (suc place) later grows enough = elim (cases_Bool (suffice (first_places place ++ later))) [
  | inl back ↦ rw back (needed-enough suffice place later grows back)
  | inr gone ↦ rw gone (needed-enough suffice place (place ∷ later) grows (grows (first_places (suc place) ++ later) (first_places place ++ place ∷ later) (turned place later) enough))
]

-- none of these can be given back
abbrev NoneBack : (List ℕ → Bool) → List ℕ → List ℕ → Type 0
NoneBack suffice gone some = All (λ place. suffice (without place gone) ≡ false) some

fewer-back : (suffice : List ℕ → Bool) (gone more some : List ℕ) → Grows suffice → GoToo gone more → NoneBack suffice more some → NoneBack suffice gone some
fewer-back suffice gone more some grows too none =
    All-weaker (λ place. suffice (without place more) ≡ false) (λ place. suffice (without place gone) ≡ false)
    (λ place lacks. shrinks suffice (without place gone) (without place more) grows (without-too place gone more too) lacks) some none

needed-each : (suffice : List ℕ → Bool) (count : ℕ) (later : List ℕ) → Grows suffice → NoneBack suffice (first_places count ++ later) later → NoneBack suffice (needed suffice count later) (needed suffice count later)
unfolding needed
needed-each suffice zero later grows none = none
needed-each suffice (suc place) later grows none = elim (cases_Bool (suffice (first_places place ++ later))) [
  | inl back ↦ rw back (needed-each suffice place later grows
      (fewer-back suffice (first_places place ++ later) (first_places (suc place) ++ later) later grows (front-more place (suc place) later (omega arith)) none))
  | inr gone ↦
      let all = first_places place ++ place ∷ later in
      let mine = shrinks suffice (without place all) (first_places place ++ later) grows (without-own place later) gone in
      let others = fewer-back suffice all (first_places (suc place) ++ later) later grows (turned-back place later) none in
      rw gone (needed-each suffice place (place ∷ later) grows (All-cons (λ other. suffice (without other all) ≡ false) place later mine others))
]

-- they are in order
needed-rising : (suffice : List ℕ → Bool) (count : ℕ) (later : List ℕ) → All (λ place. count ≤ place) later → AllPairs (λ one other. one < other) later → AllPairs (λ one other. one < other) (needed suffice count later)
unfolding needed
needed-rising suffice zero later behind rising = rising
needed-rising suffice (suc place) later behind rising = elim (cases_Bool (suffice (first_places place ++ later))) [
  | inl back ↦ rw back (needed-rising suffice place later (All-weaker (λ other. suc place ≤ other) (λ other. place ≤ other) (λ other from. omega (arith, from)) later behind) rising)
  | inr gone ↦ rw gone (needed-rising suffice place (place ∷ later)
      (All-cons (λ other. place ≤ other) place later (omega arith) (All-weaker (λ other. suc place ≤ other) (λ other. place ≤ other) (λ other from. omega (arith, from)) later behind))
      (AllPairs-cons (λ one other. one < other) place later (All-weaker (λ other. suc place ≤ other) (λ other. place < other) (λ other from. omega (arith, from)) later behind) rising))
]

needed-within : (suffice : List ℕ → Bool) (count bound : ℕ) (later : List ℕ) → count ≤ bound → All (λ place. place < bound) later → All (λ place. place < bound) (needed suffice count later)
unfolding needed
needed-within suffice zero bound later few within = within
needed-within suffice (suc place) bound later few within = elim (cases_Bool (suffice (first_places place ++ later))) [
  | inl back ↦ rw back (needed-within suffice place bound later (omega (arith, few)) within)
  | inr gone ↦ rw gone (needed-within suffice place bound (place ∷ later) (omega (arith, few)) (All-cons (λ other. other < bound) place later (omega (arith, few)) within))
]

-- what is known of those that go
pub record AreNeeded (suffice : List ℕ → Bool) (count : ℕ) (gone : List ℕ) : Type 0 where
  pub all : suffice (first_places count) ≡ true
  pub are : gone ≡ needed suffice count []

pub are-needed : PickLaws → (rooms : List NodeRoom) (stay : List Hold) (going : List (List Hold)) (job : PlanJob) (now : ℕ) (gone : List ℕ) → victims_of rooms stay going job now ≡ Some gone → AreNeeded (suffices rooms stay going job now) (length going) gone
are-needed laws rooms stay going job now gone is =
    let suffice = suffices rooms stay going job now in
    elim (cases_Bool (suffice (first_places (length going)))) [
      | inl all ↦
          let some : Some gone ≡ Some (needed suffice (length going) []) = sym is ∙ victims-some laws rooms stay going job now all in
          record { all = all; are = cc }
      | inr lacks ↦
          let wrong : Some gone ≡ None = sym is ∙ victims-none laws rooms stay going job now lacks in
          absurd cc
    ]

pub victims-suffice : PickLaws → (rooms : List NodeRoom) (stay : List Hold) (going : List (List Hold)) (job : PlanJob) (now : ℕ) (gone : List ℕ) → victims_of rooms stay going job now ≡ Some gone → suffices rooms stay going job now gone ≡ true
victims-suffice laws rooms stay going job now gone is =
    let suffice = suffices rooms stay going job now in
    let needs = are-needed laws rooms stay going job now gone is in
    rw needs.are (needed-enough suffice (length going) [] (suffices-grows laws rooms stay going job now) (rw (append-nil (first_places (length going))) needs.all))

pub victims-each : PickLaws → (rooms : List NodeRoom) (stay : List Hold) (going : List (List Hold)) (job : PlanJob) (now : ℕ) (gone : List ℕ) → victims_of rooms stay going job now ≡ Some gone → All (λ place. suffices rooms stay going job now (without place gone) ≡ false) gone
victims-each laws rooms stay going job now gone is =
    let suffice = suffices rooms stay going job now in
    let needs = are-needed laws rooms stay going job now gone is in
    rw needs.are (needed-each suffice (length going) [] (suffices-grows laws rooms stay going job now) (All-nil (λ place. suffice (without place (first_places (length going) ++ [])) ≡ false)))

pub victims-rising : PickLaws → (rooms : List NodeRoom) (stay : List Hold) (going : List (List Hold)) (job : PlanJob) (now : ℕ) (gone : List ℕ) → victims_of rooms stay going job now ≡ Some gone → AllPairs (λ one other. one < other) gone
victims-rising laws rooms stay going job now gone is =
    let needs = are-needed laws rooms stay going job now gone is in
    rw needs.are (needed-rising (suffices rooms stay going job now) (length going) [] (All-nil (λ place. length going ≤ place)) (λ i j d before below. absurd (omega (arith, below))))

pub victims-within : PickLaws → (rooms : List NodeRoom) (stay : List Hold) (going : List (List Hold)) (job : PlanJob) (now : ℕ) (gone : List ℕ) → victims_of rooms stay going job now ≡ Some gone → All (λ place. place < length going) gone
victims-within laws rooms stay going job now gone is =
    let needs = are-needed laws rooms stay going job now gone is in
    rw needs.are (needed-within (suffices rooms stay going job now) (length going) (length going) [] (omega arith) (All-nil (λ place. place < length going)))

pub none-lacks : PickLaws → (rooms : List NodeRoom) (stay : List Hold) (going : List (List Hold)) (job : PlanJob) (now : ℕ) → victims_of rooms stay going job now ≡ None → suffices rooms stay going job now (first_places (length going)) ≡ false
none-lacks laws rooms stay going job now none = elim (cases_Bool (suffices rooms stay going job now (first_places (length going)))) [
  | inr lacks ↦ lacks
  | inl all ↦
      let wrong = sym none ∙ victims-some laws rooms stay going job now all in
      absurd cc
]

nobody-suffices : (rooms : List NodeRoom) (stay : List Hold) (job : PlanJob) (now : ℕ) → suffices rooms stay [] job now (first_places 0) ≡ is_some (placement_at rooms stay job now)
unfolding suffices kept_holds
nobody-suffices rooms stay job now = rw (append-nil stay) refl

pub victims-nobody : PickLaws → (rooms : List NodeRoom) (stay : List Hold) (job : PlanJob) (now : ℕ) → victims_of rooms stay [] job now ≡ cond (is_some (placement_at rooms stay job now)) (Some []) None
victims-nobody laws rooms stay job now =
    let fits = is_some (placement_at rooms stay job now) in
    let as_is = nobody-suffices rooms stay job now in
    elim (cases_Bool fits) [
      | inl fitting ↦ rw fitting (victims-some laws rooms stay [] job now (as_is ∙ fitting) ∙ ap (λ (gone : List ℕ). Some gone) (needed-none (suffices rooms stay [] job now) []))
      | inr lacking ↦ rw lacking (victims-none laws rooms stay [] job now (as_is ∙ lacking))
    ]

-- whether some of them suffice, by the sets that fit
pub enough-fits : PickLaws → (rooms : List NodeRoom) (stay : List Hold) (going : List (List Hold)) (job : PlanJob) (now : ℕ) (gone : List ℕ) → suffices rooms stay going job now gone ≡ true → (set : List ℕ) × FitsAt rooms (held_without stay going gone) job now set
unfolding suffices
enough-fits laws rooms stay going job now gone enough = set-fits laws rooms (held_without stay going gone) job now enough

pub lacking-fits : PickLaws → (rooms : List NodeRoom) (stay : List Hold) (going : List (List Hold)) (job : PlanJob) (now : ℕ) (gone : List ℕ) → suffices rooms stay going job now gone ≡ false → (set : List ℕ) → ¬ FitsAt rooms (held_without stay going gone) job now set
unfolding suffices
lacking-fits laws rooms stay going job now gone lacks = no-set-fits laws rooms (held_without stay going gone) job now lacks
