-- Each is given back where the rest suffices.
use Rattle.std.proofs.Common.{◌≡◌, ℕ, ◌+◌, ◌-◌, ◌≤◌, zero, suc, Bool, true, false, ◌||◌, ltb, List, [], ◌∷◌, ◌++◌, length, arith, refl, sym, ap, ◌∙◌, inl, inr, append-nil, Some, None}
use Rattle.std.specs.Prelude.{find}
use Rattle.std.specs.List.{range_with_len}
use Rattle.std.proofs.lemmas.Bool.{cases_Bool}
use Rattle.std.proofs.lemmas.Bool.Decides.{nat_tests}
use Rattle.resource_profile.specs.declared.NodeRoom.{NodeRoom}
use Rattle.resource_profile.specs.declared.Hold.{Hold}
use Rattle.backfill_planner.specs.declared.job.PlanJob.{PlanJob}
use Rattle.backfill_planner.specs.Sufficing.{PickLaws}
use Rattle.backfill_planner.specs.Going.{goes, first_places, held_without, suffices, needed, shortest, victims_of}
use Rattle.backfill_planner.proofs.Places.{GoToo, front-test, held-fewer}
use Rattle.backfill_planner.proofs.Freer.{fit-fewer}

-- what suffices still does where more go
abbrev pub Grows : (List ℕ → Bool) → Type 0
Grows suffice = (gone more : List ℕ) → GoToo gone more → suffice gone ≡ true → suffice more ≡ true

pub suffices-grows : PickLaws → (rooms : List NodeRoom) (stay : List Hold) (going : List (List Hold)) (job : PlanJob) (now : ℕ) → Grows (suffices rooms stay going job now)
unfolding suffices
suffices-grows laws rooms stay going job now gone more too enough =
    fit-fewer laws rooms (held_without stay going gone) (held_without stay going more) job now (held-fewer stay going gone more too) enough

pub front-more : (low high : ℕ) (later : List ℕ) → low ≤ high → GoToo (first_places low ++ later) (first_places high ++ later)
front-more low high later order place is =
    let was : (ltb place low || goes later place) ≡ true = sym (front-test low later place) ∙ is in
    front-test high later place ∙ grind (arith, nat_tests, was, order)

one-back : (suffice : List ℕ → Bool) (place : ℕ) (later : List ℕ) → suffice (first_places place ++ later) ≡ true → needed suffice (suc place) later ≡ needed suffice place later
unfolding needed
one-back suffice place later enough = rw enough refl

-- a run that is given back
pub run-back : (suffice : List ℕ → Bool) (low count : ℕ) (later : List ℕ) → Grows suffice → suffice (first_places low ++ later) ≡ true → needed suffice (low + count) later ≡ needed suffice low later
run-back suffice low zero later grows enough = let none : low + 0 ≡ low = omega arith in rw none refl
run-back suffice low (suc count) later grows enough =
    let next : low + suc count ≡ suc (low + count) = omega arith in
    let still : suffice (first_places (low + count) ++ later) ≡ true = grows (first_places low ++ later) (first_places (low + count) ++ later) (front-more low (low + count) later (omega arith)) enough in
    ap (λ first. needed suffice first later) next ∙ one-back suffice (low + count) later still ∙ run-back suffice low count later grows enough

-- one that goes
pub one-goes : (suffice : List ℕ → Bool) (place : ℕ) (later : List ℕ) → suffice (first_places place ++ later) ≡ false → needed suffice (suc place) later ≡ needed suffice place (place ∷ later)
unfolding needed
one-goes suffice place later lacks = rw lacks refl

pub needed-none : (suffice : List ℕ → Bool) (later : List ℕ) → needed suffice 0 later ≡ later
unfolding needed
needed-none suffice later = refl

-- the first number that passes
record Passes (test : ℕ → Bool) (low count : ℕ) : Type 0 where
  pub number : ℕ
  pub found : find test (range_with_len low (suc count)) ≡ Some number
  pub passes : test number ≡ true
  pub high : number ≤ low + count

some-passes : (test : ℕ → Bool) (low count : ℕ) → test (low + count) ≡ true → Passes test low count
some-passes test low zero last =
    let here : low + 0 ≡ low = omega arith in
    let passes : test low ≡ true = rw here at last in
    record { number = low; found = rw passes refl; passes = passes; high = omega arith }
some-passes test low (suc count) last = elim (cases_Bool (test low)) [
  | inl passes ↦ record { number = low; found = rw passes refl; passes = passes; high = omega arith }
  | inr fails ↦
      let next : low + suc count ≡ (low + 1) + count = omega arith in
      let rest = some-passes test (low + 1) count (rw next at last) in
      record { number = rest.number; found = rw fails rest.found; passes = rest.passes; high = omega (arith, rest.high) }
]

none-passes : (test : ℕ → Bool) (low count : ℕ) → ((number : ℕ) → number ≤ low + count → test number ≡ false) → find test (range_with_len low (suc count)) ≡ None
none-passes test low zero fails = rw (fails low (omega arith)) refl
none-passes test low (suc count) fails =
    rw (fails low (omega arith)) (none-passes test (low + 1) count (λ number high. fails number (omega (arith, high))))

found-passes : (test : ℕ → Bool) (numbers : List ℕ) (number : ℕ) → find test numbers ≡ Some number → test number ≡ true
found-passes test [] number found = absurd cc
found-passes test (one ∷ later) number found = elim (cases_Bool (test one)) [
  | inl passes ↦
      let is : Some one ≡ Some number = rw passes at found in
      let same : one ≡ number = cc in
      rw same at passes
  | inr fails ↦ found-passes test later number (rw fails at found)
]

-- where all of them suffice, those go that are needed of all
pub victims-some : PickLaws → (rooms : List NodeRoom) (stay : List Hold) (going : List (List Hold)) (job : PlanJob) (now : ℕ) → suffices rooms stay going job now (first_places (length going)) ≡ true → victims_of rooms stay going job now ≡ Some (needed (suffices rooms stay going job now) (length going) [])
unfolding victims_of shortest
victims-some laws rooms stay going job now all =
    let suffice = suffices rooms stay going job now in
    let more : length going + 1 ≡ suc (length going) = omega arith in
    let none_more : 0 + length going ≡ length going = omega arith in
    let first = some-passes (λ first. suffice (first_places first)) 0 (length going) (rw none_more all) in
    let low = first.number in
    let start : suffice (first_places low ++ []) ≡ true = rw (append-nil (first_places low)) first.passes in
    let whole : low + (length going - low) ≡ length going = omega (arith, first.high) in
    let run = run-back suffice low (length going - low) [] (suffices-grows laws rooms stay going job now) start in
    let same : needed suffice (length going) [] ≡ needed suffice low [] = rw whole at run in
    rw (more, first.found, same) refl

pub victims-none : PickLaws → (rooms : List NodeRoom) (stay : List Hold) (going : List (List Hold)) (job : PlanJob) (now : ℕ) → suffices rooms stay going job now (first_places (length going)) ≡ false → victims_of rooms stay going job now ≡ None
unfolding victims_of shortest
victims-none laws rooms stay going job now lacks =
    let suffice = suffices rooms stay going job now in
    let more : length going + 1 ≡ suc (length going) = omega arith in
    let grows = suffices-grows laws rooms stay going job now in
    let nowhere = none-passes (λ first. suffice (first_places first)) 0 (length going) (λ number high. elim (cases_Bool (suffice (first_places number))) [
      | inr fails ↦ fails
      | inl passes ↦
          let wrong : suffice (first_places (length going)) ≡ true = grows (first_places number) (first_places (length going)) (front-all number (length going) (omega (arith, high))) passes in
          let never : false ≡ true = sym lacks ∙ wrong in
          absurd cc
    ]) in
    rw (more, nowhere) refl
  where
    front-all : (low high : ℕ) → low ≤ high → GoToo (first_places low) (first_places high)
    front-all low high order place is =
        let was : goes (first_places low ++ []) place ≡ true = rw (append-nil (first_places low)) is in
        let now_too : goes (first_places high ++ []) place ≡ true = front-more low high [] order place was in
        rw (append-nil (first_places high)) at now_too
