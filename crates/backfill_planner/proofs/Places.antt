-- Which places go, and what those hold that don't.
use Rattle.std.proofs.Common.{◌≡◌, ◌≢◌, ℕ, ◌+◌, ◌≤◌, ◌<◌, zero, suc, true, false, ◌&&◌, ◌||◌, not, cond, eqb, leb, ltb, List, [], ◌∷◌, ◌++◌, length, take, drop, get_or, sum_by, arith, refl, sym, ap, ◌∙◌, inl, inr}
use Rattle.std.specs.List.{list_any, range_with_len, flat_map}
use Rattle.std.proofs.lemmas.Bool.{cases_Bool}
use Rattle.std.proofs.lemmas.Bool.Decides.{nat_tests}
use Rattle.std.proofs.lemmas.List.Sums.{sum_by-append}
use Rattle.std.proofs.lemmas.List.Folds.{list_any-append}
use Rattle.std.proofs.lemmas.List.{drop_more}
use Rattle.resource_profile.specs.declared.Hold.{Hold}
use Rattle.backfill_planner.specs.Going.{goes, first_places, without, kept_holds, held_without}

range-test : (low count place : ℕ) → list_any (λ other. eqb other place) (range_with_len low count) ≡ (leb low place && ltb place (low + count))
range-test low zero place = grind (arith, nat_tests)
range-test low (suc count) place = grind (arith, nat_tests, range-test (low + 1) count place)

pub first-test : (count place : ℕ) → goes (first_places count) place ≡ ltb place count
first-test count place = range-test 0 count place ∙ grind (arith, nat_tests)

pub append-test : (some later : List ℕ) (place : ℕ) → goes (some ++ later) place ≡ (goes some place || goes later place)
append-test some later place = list_any-append (λ other. eqb other place) some later

-- the first places and some later ones
pub front-test : (count : ℕ) (later : List ℕ) (place : ℕ) → goes (first_places count ++ later) place ≡ (ltb place count || goes later place)
front-test count later place =
    append-test (first_places count) later place ∙ ap (λ first. first || goes later place) (first-test count place)

pub without-test : (place : ℕ) (gone : List ℕ) (other : ℕ) → goes (without place gone) other ≡ (goes gone other && not (eqb other place))
without-test place [] other = refl
without-test place (one ∷ gone) other = elim (cases_Bool (eqb one place)) [
  | inl same ↦ rw same (grind (arith, nat_tests, same, without-test place gone other))
  | inr differs ↦ rw differs (grind (arith, nat_tests, differs, without-test place gone other))
]

-- who goes with the ones goes with the others too
abbrev pub GoToo : List ℕ → List ℕ → Type 0
GoToo gone more = (place : ℕ) → goes gone place ≡ true → goes more place ≡ true

-- the more go, the less is held
pub kept-fewer : (amount : Hold → ℕ) (place : ℕ) (going : List (List Hold)) (gone more : List ℕ) → GoToo gone more → sum_by amount (kept_holds place going more) ≤ sum_by amount (kept_holds place going gone)
unfolding kept_holds
kept-fewer amount place [] gone more too = omega arith
kept-fewer amount place (holds ∷ later) gone more too =
    let rest = kept-fewer amount (place + 1) later gone more too in
    let ones = sum_by-append amount holds (kept_holds (place + 1) later gone) in
    let others = sum_by-append amount holds (kept_holds (place + 1) later more) in
    elim (cases_Bool (goes gone place)) [
      | inl went ↦
          let goes_too = too place went in
          rw (went, goes_too) rest
      | inr stayed ↦ elim (cases_Bool (goes more place)) [
        | inl goes_now ↦ rw (stayed, goes_now) (omega (arith, rest, ones))
        | inr stays ↦ rw (stayed, stays) (omega (arith, rest, ones, others))
      ]
    ]

kept-same : (place : ℕ) (going : List (List Hold)) (gone others : List ℕ) → ((other : ℕ) → place ≤ other → goes gone other ≡ goes others other) → kept_holds place going gone ≡ kept_holds place going others
unfolding kept_holds
kept-same place [] gone others same = refl
kept-same place (holds ∷ later) gone others same =
    let here = same place (omega arith) in
    rw here (ap (λ rest. cond (goes others place) [] holds ++ rest) (kept-same (place + 1) later gone others (λ other from. same other (omega (arith, from)))))

-- where all go, nothing is kept
kept-nothing : (place : ℕ) (going : List (List Hold)) (gone : List ℕ) → ((other : ℕ) → other < place + length going → goes gone other ≡ true) → kept_holds place going gone ≡ []
unfolding kept_holds
kept-nothing place [] gone all = refl
kept-nothing place (holds ∷ later) gone all =
    let here = all place (omega arith) in
    rw here (kept-nothing (place + 1) later gone (λ other below. all other (omega (arith, below))))

pub held-nothing : (stay : List Hold) (going : List (List Hold)) → (amount : Hold → ℕ) → sum_by amount (held_without stay going (first_places (length going))) ≡ sum_by amount stay
held-nothing stay going amount =
    let nothing = kept-nothing 0 going (first_places (length going)) (λ other below. first-test (length going) other ∙ grind (arith, nat_tests)) in
    rw nothing (omega (arith, sum_by-append amount stay []))

-- one of them is given back
kept-one : (amount : Hold → ℕ) (place at offset : ℕ) (going : List (List Hold)) (gone others : List ℕ) → at ≡ place + offset → offset < length going → goes gone at ≡ false → goes others at ≡ true → ((other : ℕ) → other ≢ at → goes gone other ≡ goes others other)
    → sum_by amount (kept_holds place going gone) ≡ sum_by amount (kept_holds place going others) + sum_by amount (get_or going offset [])
unfolding kept_holds
kept-one amount place at offset [] gone others is inside lacks has same = absurd (omega (arith, inside))
kept-one amount place at zero (holds ∷ later) gone others is inside lacks has same =
    let here : at ≡ place = omega (arith, is) in
    let stays : goes gone place ≡ false = rw here at lacks in
    let went : goes others place ≡ true = rw here at has in
    let rest = kept-same (place + 1) later gone others (λ other from. same other (λ e. omega (arith, e, here, from))) in
    rw (stays, went, rest) (omega (arith, sum_by-append amount holds (kept_holds (place + 1) later others)))
kept-one amount place at (suc offset) (holds ∷ later) gone others is inside lacks has same =
    let here = same place (λ e. omega (arith, e, is)) in
    let mine = cond (goes others place) [] holds in
    rw here (omega (
      arith,
      sum_by-append amount mine (kept_holds (place + 1) later gone),
      sum_by-append amount mine (kept_holds (place + 1) later others),
      kept-one amount (place + 1) at offset later gone others (omega (arith, is)) (omega (arith, inside)) lacks has same,
    ))

-- what some hold, one after the other
abbrev pub all_of : List (List Hold) → List Hold
all_of going = flat_map (λ holds. holds) going

-- a run of them is given back
pub held-run : (amount : Hold → ℕ) (stay : List Hold) (going : List (List Hold)) (later : List ℕ) (low count : ℕ) → low + count ≤ length going → ((place : ℕ) → place < low + count → goes later place ≡ false)
    → sum_by amount (held_without stay going (first_places low ++ later)) ≡ sum_by amount (held_without stay going (first_places (low + count) ++ later)) + sum_by amount (all_of (take count (drop low going)))
held-run amount stay going later low zero few behind =
    let none : low + 0 ≡ low = omega arith in
    rw none (omega arith)
held-run amount stay going later low (suc count) few behind =
    let next : low + suc count ≡ (low + 1) + count = omega arith in
    let rest = held-run amount stay going later (low + 1) count (omega (arith, few)) (λ place below. behind place (omega (arith, below))) in
    let lacks : goes (first_places low ++ later) low ≡ false = front-test low later low ∙ grind (arith, nat_tests, behind low (omega arith)) in
    let has : goes (first_places (low + 1) ++ later) low ≡ true = front-test (low + 1) later low ∙ grind (arith, nat_tests) in
    let same : (other : ℕ) → other ≢ low → goes (first_places low ++ later) other ≡ goes (first_places (low + 1) ++ later) other =
    λ other differs. front-test low later other ∙ grind (arith, nat_tests, differs) ∙ sym (front-test (low + 1) later other) in
    let one = kept-one amount 0 low low going (first_places low ++ later) (first_places (low + 1) ++ later) (omega arith) (omega (arith, few)) lacks has same in
    let split : drop low going ≡ get_or going low [] ∷ drop (low + 1) going = drop_more going low [] (omega (arith, few)) in
    rw (next, split) (omega (
      arith,
      rest,
      one,
      sum_by-append amount stay (kept_holds 0 going (first_places low ++ later)),
      sum_by-append amount stay (kept_holds 0 going (first_places (low + 1) ++ later)),
      sum_by-append amount (get_or going low []) (all_of (take count (drop (low + 1) going))),
    ))

pub held-fewer : (stay : List Hold) (going : List (List Hold)) (gone more : List ℕ) → GoToo gone more → (amount : Hold → ℕ) → sum_by amount (held_without stay going more) ≤ sum_by amount (held_without stay going gone)
held-fewer stay going gone more too amount =
    omega (
      arith,
      kept-fewer amount 0 going gone more too,
      sum_by-append amount stay (kept_holds 0 going gone),
      sum_by-append amount stay (kept_holds 0 going more),
    )

-- where nobody goes, all that they hold is held
pub kept-all : (place : ℕ) (going : List (List Hold)) → kept_holds place going [] ≡ all_of going
unfolding kept_holds
kept-all place [] = refl
kept-all place (holds ∷ later) = ap (λ rest. holds ++ rest) (kept-all (place + 1) later)
