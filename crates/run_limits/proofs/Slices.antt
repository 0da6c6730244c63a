-- The paths that lie in a list of levels, and stay there as the list grows.
use Rattle.std.proofs.Common.{◌≡◌, ℕ, zero, suc, inl, inr, add-one, ◌+◌, ◌-◌, ◌≤◌, Bool, true, false, cond, List, [], ◌∷◌, ◌++◌, length, drop, map, refl, sym, ap, ◌∙◌, arith, zero-add, length-append}
use Rattle.std.specs.Prelude.{All, ◌&&◌, nat_le, slice_range}
use Rattle.std.specs.List.{range_with_len}
use Rattle.std.proofs.lemmas.Bool.{cases_Bool, le-leb}
use Rattle.std.proofs.lemmas.Bool.Decides.{nat_tests}
use Rattle.std.proofs.lemmas.List.{map_push, length-map, take-map, drop-map, take_all, take-append-le, drop-append-le, length-drop}
use Rattle.std.proofs.lemmas.List.Elements.{All-head, All-tail}
use Rattle.std.proofs.Math.Seq.{drop-append_seam}
use Rattle.run_limits.specs.declared.level.LevelFs.{LevelFs}
use Rattle.run_limits.specs.declared.paths.Span.{Span}
use Rattle.run_limits.specs.Levels.{Level}
use Rattle.run_limits.specs.Paths.{seen, path_in}

-- the part of a list from one place to another, if it has both
abbrev part_of : {X : Type 0} → List X → ℕ → ℕ → List X
part_of xs start end = cond (nat_le start end && nat_le end (length xs)) (slice_range xs start end) []

path_in-seen : (levels : List LevelFs) (span : Span) → path_in levels span ≡ part_of (map seen levels) span.start span.end
path_in-seen levels span =
    mapped (nat_le span.start span.end && nat_le span.end (length levels))
    ∙ rw (length-map levels seen, drop-map seen span.start levels, take-map seen (span.end - span.start) (drop span.start levels)) refl
  where
    mapped : (b : Bool) → map seen (cond b (slice_range levels span.start span.end) []) ≡ cond b (map seen (slice_range levels span.start span.end)) []
    mapped true = refl
    mapped false = refl

part_of-front : (xs ys : List Level) (start end : ℕ) → end ≤ length xs → part_of (xs ++ ys) start end ≡ part_of xs start end
part_of-front xs ys start end within =
    rw (le-leb end (length (xs ++ ys)) (omega (arith, length-append xs ys, within)), le-leb end (length xs) within)
    (elim (cases_Bool (nat_le start end)) [
      | inl ordered ↦
          let low : start ≤ end = grind (arith, nat_tests) in
          let inside : start ≤ length xs = omega (arith, low, within) in
          let short : end - start ≤ length (drop start xs) = simp length-drop (omega (arith, within)) in
          rw (drop-append-le start xs ys inside, take-append-le (end - start) (drop start xs) ys short) refl
      | inr turned ↦ rw turned refl
    ])

part_of-back : (xs ys : List Level) → part_of (xs ++ ys) (length xs) (length (xs ++ ys)) ≡ ys
part_of-back xs ys =
    let longer : length xs ≤ length (xs ++ ys) = omega (arith, length-append xs ys) in
    rw (le-leb (length xs) (length (xs ++ ys)) longer, le-leb (length (xs ++ ys)) (length (xs ++ ys)) (omega arith), drop-append_seam xs ys)
    (take_all (length (xs ++ ys) - length xs) ys (omega (arith, length-append xs ys)))

-- paths stay as they are while levels are put behind them
pub paths-kept : (levels grown : List LevelFs) (more : List Level) → map seen grown ≡ map seen levels ++ more
    → (spans : List Span) → All (λ (span : Span). span.end ≤ length levels) spans → map (path_in grown) spans ≡ map (path_in levels) spans
paths-kept levels grown more e [] ends = refl
paths-kept levels grown more e (span ∷ spans) ends =
    let short : span.end ≤ length (map seen levels) = rw (length-map levels seen) (All-head (λ (span : Span). span.end ≤ length levels) span spans ends) in
    let here : path_in grown span ≡ path_in levels span =
    path_in-seen grown span ∙ rw e (part_of-front (map seen levels) more span.start span.end short) ∙ sym (path_in-seen levels span) in
    let rest = paths-kept levels grown more e spans (All-tail (λ (span : Span). span.end ≤ length levels) span spans ends) in
    ap (λ p. p ∷ map (path_in grown) spans) here ∙ ap (λ l. path_in levels span ∷ l) rest

-- and what was put behind them is a path too
pub path_in-new : (levels grown : List LevelFs) (more : List Level) (user : ℕ) → map seen grown ≡ map seen levels ++ more
    → path_in grown (record { user = user; start = length levels; end = length grown }) ≡ more
path_in-new levels grown more user e =
    path_in-seen grown (record { user = user; start = length levels; end = length grown })
    ∙ rw (← length-map levels seen, ← length-map grown seen, e) (part_of-back (map seen levels) more)

pub grown-longer : (levels grown : List LevelFs) (more : List Level) → map seen grown ≡ map seen levels ++ more → length levels ≤ length grown
grown-longer levels grown more e =
    omega (arith, length-map levels seen, length-map grown seen, ap length e, length-append (map seen levels) more)

pub range-push : (a n : ℕ) → range_with_len a (n + 1) ≡ range_with_len a n ++ (a + n) ∷ []
range-push a n = rw add-one (push a n)
  where
    push : (a n : ℕ) → range_with_len a (suc n) ≡ range_with_len a n ++ (a + n) ∷ []
    push a zero = ap (λ m. m ∷ []) (omega arith)
    push a (suc n) = ap (λ l. a ∷ l) (push (a + 1) n ∙ ap (λ m. range_with_len (a + 1) n ++ m ∷ []) (omega arith))

-- a number more
pub range-more : (n : ℕ) → range_with_len 0 n ++ n ∷ [] ≡ range_with_len 0 (n + 1)
range-more n = ap (λ m. range_with_len 0 n ++ m ∷ []) (sym (zero-add n)) ∙ sym (range-push 0 n)

-- a path more
pub paths-more : (levels grown : List LevelFs) (more : List Level) → map seen grown ≡ map seen levels ++ more
    → (spans : List Span) (user : ℕ) (paths : List (List Level)) → All (λ (span : Span). span.end ≤ length levels) spans → map (path_in levels) spans ≡ paths
    → map (path_in grown) (spans ++ record { user = user; start = length levels; end = length grown } ∷ []) ≡ paths ++ more ∷ []
paths-more levels grown more e spans user paths ends is =
    map_push (path_in grown) spans (record { user = user; start = length levels; end = length grown })
    ∙ ap (λ l. l ++ path_in grown (record { user = user; start = length levels; end = length grown }) ∷ []) (paths-kept levels grown more e spans ends ∙ is)
    ∙ ap (λ p. paths ++ p ∷ []) (path_in-new levels grown more user e)
