-- The numbers that items name, and how they are marked.
use Rattle.std.proofs.Common.{ℕ, ◌≡◌, ◌+◌, ◌-◌, ◌*◌, ◌/◌, ◌%◌, ◌<◌, ◌≤◌, ◌||◌, ◌&&◌, Bool, true, false, ltb, List, length, get_or, set, refl, sym, ap, ◌∙◌, ◌⊎◌, inl, inr, arith}
use Rattle.std.specs.List.{All, AllPairs, list_any}
use Rattle.std.proofs.lemmas.Bool.{cases_order, cases_lt, and_from, and_left, and_right, or_right, le-leb, lt-ltb, le-ltb, eq-eqb, ne_eqb}
use Rattle.std.proofs.lemmas.List.{get_or-set_other}
use Rattle.std.proofs.lemmas.Grind.{get_or-set_at}
use Rattle.std.proofs.lemmas.List.Folds.{list_any_at}
use Rattle.std.proofs.lemmas.Nat.{mod-mul-add, div-add-mod', mul-le}
use Rattle.std.proofs.Math.Nat.{add-mul-mod_self_right}
use Rattle.sbatch_reader.specs.Array.{names, index_bound, indices_of}
use Rattle.sbatch_reader.specs.Marks.{IsLong, marked}
use Rattle.sbatch_reader.specs.declared.array.Stretch.{Stretch}
use Rattle.sbatch_reader.proofs.MarkLemmas.{passing-long, passing-rising, passing-below, marked-passing}

pub index_bound-is : index_bound ≡ 100000
unfolding index_bound
index_bound-is = refl

-- a number that a stretch names
named : (s : Stretch) (n : ℕ) → s.first ≤ n → n ≤ s.last → (n - s.first) % s.step ≡ 0 → names s n ≡ true
named s n after before step = and_from _ _ (and_from _ _ (le-leb _ _ after) (le-leb _ _ before)) (eq-eqb _ _ step)

named-step : (s : Stretch) (i : ℕ) → 1 ≤ s.step → s.first + i * s.step ≤ s.last → names s (s.first + i * s.step) ≡ true
named-step s i some inside =
    let whole : s.first + i * s.step - s.first ≡ i * s.step + 0 = omega arith in
    named s (s.first + i * s.step) (omega arith) inside (ap (λ n. n % s.step) whole ∙ mod-mul-add i s.step 0 some)

-- between two steps lies none
unnamed : (s : Stretch) (at n : ℕ) → s.first ≤ at → (at - s.first) % s.step ≡ 0 → at < n → n < at + s.step → names s n ≡ false
unnamed s at n after step above below =
    and_right _ _ (ne_eqb _ _ (λ (also : (n - s.first) % s.step ≡ 0). absurd (omega (arith, sym away ∙ also))))
  where
    whole : n - s.first ≡ (at - s.first) / s.step * s.step + (n - at)
    whole = omega (arith, div-add-mod' (at - s.first) s.step)

    away : (n - s.first) % s.step ≡ n - at
    away = ap (λ m. m % s.step) whole ∙ mod-mul-add ((at - s.first) / s.step) s.step (n - at) (omega arith)

pub step-more : (s : Stretch) (at by : ℕ) → by ≡ s.step → s.first ≤ at → (at - s.first) % s.step ≡ 0 → (at + by - s.first) % s.step ≡ 0
step-more s at by same after step =
    let whole : at + by - s.first ≡ at - s.first + 1 * s.step = omega arith in
    ap (λ n. n % s.step) whole ∙ add-mul-mod_self_right (at - s.first) 1 s.step ∙ step

-- one step of marking
pub mark-more : (s : Stretch) (was marks : List Bool) (at by : ℕ) → by ≡ s.step → s.first ≤ at → at ≤ s.last → (at - s.first) % s.step ≡ 0 → 1 ≤ by → at < length marks → ((n : ℕ) → get_or marks n false ≡ (get_or was n false || (names s n && ltb n at))) → (n : ℕ) → get_or (set marks at true) n false ≡ (get_or was n false || (names s n && ltb n (at + by)))
mark-more s was marks at by same after before step some inside each n =
    by_order (cases_order n at)
  where
    neither : at < n → (names s n && ltb n (at + by)) ≡ false
    neither more =
        elim (cases_lt n (at + by)) [ inl less ↦ and_left _ _ (unnamed s at n after step more (omega arith)) | inr past ↦ and_right _ _ (le-ltb _ _ past) ]

    by_order : (n ≡ at) ⊎ ((n < at) ⊎ (at < n)) → get_or (set marks at true) n false ≡ (get_or was n false || (names s n && ltb n (at + by)))
    by_order (inl here) =
        get_or-set_at marks at n true false here inside
        ∙ sym (or_right _ _ (and_from _ _ (named s n (omega arith) (omega arith) (ap (λ m. (m - s.first) % s.step) here ∙ step)) (lt-ltb _ _ (omega arith))))
    by_order (inr (inl less)) =
        get_or-set_other marks at n true false (omega arith) ∙ each n
        ∙ ap (λ (t : Bool). get_or was n false || (names s n && t)) (lt-ltb n at less ∙ sym (lt-ltb n (at + by) (omega arith)))
    by_order (inr (inr more)) =
        get_or-set_other marks at n true false (omega arith) ∙ each n
        ∙ ap (λ (t : Bool). get_or was n false || t) (and_right (names s n) _ (le-ltb n at (omega arith)) ∙ sym (neither more))

-- a long stretch among others
pub long-named : (stretches : List Stretch) (i : ℕ) (d : Stretch) → i < length stretches → IsLong (get_or stretches i d) → 10001 < length (indices_of stretches)
unfolding indices_of
long-named stretches i d inside long =
    let s = get_or stretches i d in
    passing-long (λ n. list_any (λ (stretch : Stretch). names stretch n) stretches) s.first s.step 10001 index_bound (λ k few. list_any_at (λ (stretch : Stretch). names stretch (s.first + k * s.step)) stretches i d inside (named-step s k long.steps (omega (arith, long.many, mul-le k s.step 10001 s.step few (omega arith))))) long.steps (omega (arith, long.many, long.within, index_bound-is))

-- what is marked
pub marked-indices : (stretches : List Stretch) (marks : List Bool) → length marks ≤ 100000 → ((n : ℕ) → get_or marks n false ≡ list_any (λ (stretch : Stretch). names stretch n) stretches) → marked marks ≡ indices_of stretches
unfolding indices_of
marked-indices stretches marks small each =
    marked-passing (λ n. list_any (λ (stretch : Stretch). names stretch n) stretches) marks index_bound (omega (arith, index_bound-is)) each

pub indices-rising : (stretches : List Stretch) → AllPairs (λ one other. one < other) (indices_of stretches)
unfolding indices_of
indices-rising stretches = passing-rising (λ n. list_any (λ (stretch : Stretch). names stretch n) stretches) index_bound

pub indices-small : (stretches : List Stretch) → All (λ index. index ≤ 99999) (indices_of stretches)
unfolding indices_of
indices-small stretches k d inside =
    omega (arith, index_bound-is, passing-below (λ n. list_any (λ (stretch : Stretch). names stretch n) stretches) index_bound k d inside)

pub ruleset indexing = (long-named, marked-indices, indices-rising, indices-small)
