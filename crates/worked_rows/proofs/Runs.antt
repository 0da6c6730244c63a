-- The runs of names.
use Rattle.std.proofs.Common.{ℕ, zero, suc, ◌≡◌, ◌≢◌, ◌+◌, ◌-◌, ◌≤◌, ◌==◌, if◌then◌else◌, Bool, true, false, List, [], ◌∷◌, ◌++◌, length, map, flat_map, All, Contains, sym, refl, ap, ◌∙◌, arith, eqb-true}
use Rattle.std.specs.List.{AllAdjacentBelow}
use Rattle.std.proofs.lemmas.Bool.Decides.{nat_tests}
use Rattle.std.proofs.lemmas.List.Elements.{All-nil, All-cons, All-head, All-tail, All-weaker, Contains-append_right}
use Rattle.host_lists.specs.Folding.{number_of, continued, runs}
use Rattle.worked_rows.specs.Folds.{run_numbers}

abbrev Run : Type 0
Run = List ℕ × List ℕ

abbrev GoesUp : Run → Type 0
GoesUp run = number_of run.0 ≤ number_of run.1

abbrev IsApart : Run → Run → Type 0
IsApart run next = number_of next.0 ≢ number_of run.1 + 1

-- what is asked of runs, by recursion
abbrev AreApart : List Run → Type 0
AreApart [] = Unit {0}
AreApart (run ∷ []) = Unit {0}
AreApart (run ∷ next ∷ rs) = IsApart run next × AreApart (next ∷ rs)

adjacent : (rs : List Run) → AreApart rs → AllAdjacentBelow IsApart rs (length rs)
adjacent [] h k d inside = absurd (omega (arith, inside))
adjacent (run ∷ []) h k d inside = absurd (omega (arith, inside))
adjacent (run ∷ next ∷ rs) h zero d inside = h.0
adjacent (run ∷ next ∷ rs) h (suc k) d inside =
    let e : suc k + 1 ≡ suc (k + 1) = omega arith in
    rw e (adjacent (next ∷ rs) h.1 k d (omega (arith, inside)))

-- a name before runs: it begins the first of them, or is a run of its own
record Grows (name : List ℕ) (rs grown : List Run) : Type 0 where
  up : All GoesUp grown
  apart : AreApart grown
  numbers : flat_map run_numbers grown ≡ number_of name ∷ flat_map run_numbers rs

one_number : (name : List ℕ) → run_numbers (name, name) ≡ number_of name ∷ []
one_number name = let one : number_of name + 1 - number_of name ≡ 1 = omega arith in rw one refl

more_numbers : (name first last : List ℕ) → number_of first ≡ number_of name + 1 → number_of first ≤ number_of last
    → run_numbers (name, last) ≡ number_of name ∷ run_numbers (first, last)
more_numbers name first last e h =
    let count : number_of last + 1 - number_of name ≡ suc (number_of last + 1 - number_of first) = omega arith in
    rw (count, e) refl

-- the runs behind the first stay apart from it when it begins earlier
earlier-apart : (name : List ℕ) (next : Run) (rs : List Run) → AreApart (next ∷ rs) → AreApart ((name, next.1) ∷ rs)
earlier-apart name next [] h = tt
earlier-apart name next (run ∷ rs) h = h

grows : (name : List ℕ) (rs : List Run) → All GoesUp rs → AreApart rs → Grows name rs (continued name name rs)
grows name [] up apart = record {
  up = All-cons GoesUp (name, name) [] (omega arith) (All-nil GoesUp);
  apart = tt;
  numbers = rw (one_number name) refl;
}
grows name (next ∷ rs) up apart = by_next (number_of next.0 == number_of name + 1) refl where
  by_next : (t : Bool) → (number_of next.0 == number_of name + 1) ≡ t
      → Grows name (next ∷ rs) (if t then (name, next.1) ∷ rs else (name, name) ∷ next ∷ rs)
  by_next true e =
      let at : number_of next.0 ≡ number_of name + 1 = eqb-true (number_of next.0) (number_of name + 1) e in
      let first : number_of next.0 ≤ number_of next.1 = All-head GoesUp next rs up in
      record {
        up = All-cons GoesUp (name, next.1) rs (omega (arith, at, first)) (All-tail GoesUp next rs up);
        apart = earlier-apart name next rs apart;
        numbers = ap (λ (u : List ℕ). u ++ flat_map run_numbers rs) (more_numbers name next.0 next.1 at first);
      }
  by_next false e = record {
    up = All-cons GoesUp (name, name) (next ∷ rs) (omega arith) up;
    apart = (
      λ at. let same : (number_of next.0 == number_of name + 1) ≡ true = grind (arith, nat_tests, at) in
          let clash : false ≡ true = sym e ∙ same in cc,
      apart,
    );
    numbers = ap (λ (u : List ℕ). u ++ flat_map run_numbers (next ∷ rs)) (one_number name);
  }

record AreRuns (names : List (List ℕ)) : Type 0 where
  up : All GoesUp (runs names)
  apart : AreApart (runs names)
  numbers : flat_map run_numbers (runs names) ≡ map number_of names

are_runs : (names : List (List ℕ)) → AreRuns names
are_runs [] = record { up = All-nil GoesUp; apart = tt; numbers = refl }
are_runs (name ∷ names) =
    let more : AreRuns names = are_runs names in
    let whole : Grows name (runs names) (continued name name (runs names)) =
    grows name (runs names) more.up more.apart in
    record {
      up = whole.up;
      apart = whole.apart;
      numbers = whole.numbers ∙ ap (λ (u : List ℕ). number_of name ∷ u) more.numbers;
    }

pub runs-numbers : (names : List (List ℕ)) → flat_map run_numbers (runs names) ≡ map number_of names
runs-numbers names = (are_runs names).numbers

pub runs-up : (names : List (List ℕ)) → All (λ run. number_of run.0 ≤ number_of run.1) (runs names)
runs-up names = (are_runs names).up

pub runs-longest : (names : List (List ℕ))
    → AllAdjacentBelow (λ run next. number_of next.0 ≢ number_of run.1 + 1) (runs names) (length (runs names))
runs-longest names = adjacent (runs names) (are_runs names).apart

-- ---- the names at which runs begin and end

abbrev IsOf : List (List ℕ) → Run → Type 0
IsOf names run = Contains names run.0 × Contains names run.1

of_more : (name : List ℕ) (names : List (List ℕ)) (run : Run) → IsOf names run → IsOf (name ∷ names) run
of_more name names run h = (
  Contains-append_right (name ∷ []) names run.0 h.0,
  Contains-append_right (name ∷ []) names run.1 h.1,
)

here : (name : List ℕ) (names : List (List ℕ)) → Contains (name ∷ names) name
here name names = (0, omega arith, refl)

of-continued : (name : List ℕ) (names : List (List ℕ)) (rs : List Run) → All (IsOf (name ∷ names)) rs
    → All (IsOf (name ∷ names)) (continued name name rs)
of-continued name names [] h = All-cons (IsOf (name ∷ names)) (name, name) [] (here name names, here name names)
    (All-nil (IsOf (name ∷ names)))
of-continued name names (next ∷ rs) h = by_next (number_of next.0 == number_of name + 1) where
  by_next : (t : Bool) → All (IsOf (name ∷ names)) (if t then (name, next.1) ∷ rs else (name, name) ∷ next ∷ rs)
  by_next true = All-cons (IsOf (name ∷ names)) (name, next.1) rs
      (here name names, (All-head (IsOf (name ∷ names)) next rs h).1) (All-tail (IsOf (name ∷ names)) next rs h)
  by_next false = All-cons (IsOf (name ∷ names)) (name, name) (next ∷ rs) (here name names, here name names) h

pub runs-names : (names : List (List ℕ)) → All (λ run. Contains names run.0 × Contains names run.1) (runs names)
runs-names [] = All-nil (IsOf [])
runs-names (name ∷ names) = of-continued name names (runs names)
    (All-weaker (IsOf names) (IsOf (name ∷ names)) (of_more name names) (runs names) (runs-names names))
