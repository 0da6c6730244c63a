-- The ranks that a walk over sorted users gives.
use Rattle.std.proofs.Common.{◌≡◌, ℕ, zero, suc, ◌+◌, ◌-◌, ◌<◌, ◌≤◌, Bool, true, false, cond, List, [], ◌∷◌, length, map, get_or, set, refl, sym, ap, ◌∙◌, inl, inr, arith, get_or-set_same, get_or-set_other}
use Rattle.std.specs.Prelude.{◌&&◌, nat_lt}
use Rattle.std.specs.List.Sorted.{IsSortedBy}
use Rattle.std.specs.Ordering.{is_lt, is_gt}
use Rattle.std.proofs.lemmas.Bool.{cases_eq, cases_lt, lt-ltb}
use Rattle.std.proofs.lemmas.List.{get_or_default, length-map}
use Rattle.std.proofs.lemmas.List.Sorted.{sorted_far}
use Rattle.std.proofs.Math.ListN.{get_or-map}
use Rattle.run_limits.specs.declared.level.LevelFs.{LevelFs}
use Rattle.run_limits.specs.declared.paths.Span.{Span}
use Rattle.run_limits.specs.Ranks.{is_greater, rank_among}
use Rattle.run_limits.specs.Paths.{seen, levels_in, path_in, comes_first, AreApart}
use Rattle.run_limits.proofs.Parts.{parts, walk}
use Rattle.run_limits.proofs.Counting.{Stands, Stands-first, Stands-less, Stands-alike, Stands-count, is_gt-greater}
use Rattle.run_limits.proofs.LevelOrder.{fs_cmp, fs_cmp-total, parting-map, rank_among-map}
use Rattle.run_limits.proofs.Turned.{comes_first-order}

-- what stands at no place
abbrev pub nowhere : Span
nowhere = record { user = 0; start = 0; end = 0 }

-- the paths of users, in their order
abbrev pub paths_in : List LevelFs → List Span → List (List LevelFs)
paths_in levels spans = map (levels_in levels) spans

-- of the path at a place so many come before
abbrev pub StandsIn : List LevelFs → List Span → ℕ → ℕ → Type 0
StandsIn levels spans place ahead = Stands fs_cmp fs_cmp-total (paths_in levels spans) place ahead

paths-seen : (levels : List LevelFs) (spans : List Span) → map (path_in levels) spans ≡ map (map seen) (paths_in levels spans)
paths-seen levels [] = refl
paths-seen levels (span ∷ spans) = ap (λ l. path_in levels span ∷ l) (paths-seen levels spans)

module _ (levels : List LevelFs) (spans : List Span) where
  at-place : (k : ℕ) (d : Span) → k < length spans → get_or (paths_in levels spans) k [] ≡ levels_in levels (get_or spans k d)
  at-place k d low =
      let inside : k < length (paths_in levels spans) = rw (length-map spans (levels_in levels)) low in
      get_or_default (paths_in levels spans) k [] (levels_in levels d) inside ∙ get_or-map (levels_in levels) spans k d

  module _ (sorted : IsSortedBy (comes_first levels) spans) where
    far : (i j : ℕ) → i ≤ j → j < length (paths_in levels spans)
        → is_lt (walk fs_cmp (get_or (paths_in levels spans) j []) (get_or (paths_in levels spans) i [])) ≡ false
    far i j order inside =
        let low : j < length spans = rw (length-map spans (levels_in levels)) at inside in
        let lower : i < length spans = omega (arith, low, order) in
        rw (at-place j nowhere low, at-place i nowhere lower) (sorted_far (comes_first levels) (comes_first-order levels) spans sorted i j nowhere order low)

    -- so many come before the next, by whether its path is less than the one before it
    pub StandsIn-next : (place ahead : ℕ) → place < length spans → (0 < place → StandsIn levels spans (place - 1) ahead) → ahead ≤ place
        → (falls : Bool) → ((d : Span) → falls ≡ (nat_lt 0 place && is_greater (path_in levels (get_or spans (place - 1) d)) (path_in levels (get_or spans place d))))
        → StandsIn levels spans place (cond falls place ahead)
    StandsIn-next zero ahead low stands few falls is =
        let none : falls ≡ false = is nowhere in
        let start : ahead ≡ 0 = omega (arith, few) in
        rw (none, start) (Stands-first fs_cmp fs_cmp-total (paths_in levels spans) far)
    StandsIn-next (suc place) ahead low stands few falls is =
        next falls greater
      where
        before : suc place - 1 ≡ place
        before = omega arith

        after : suc place ≡ place + 1
        after = omega arith

        stood : StandsIn levels spans place ahead
        stood = rw before at (stands (omega arith))

        inside : place + 1 < length (paths_in levels spans)
        inside = rw (length-map spans (levels_in levels)) (omega (arith, low))

        greater : falls ≡ is_gt (parts fs_cmp (get_or (paths_in levels spans) place []) (get_or (paths_in levels spans) (place + 1) []))
        greater =
            let low_before : place < length spans = omega (arith, low) in
            let low_after : place + 1 < length spans = omega (arith, low) in
            let e = rw (lt-ltb 0 (suc place) (omega arith), before, after) at (is nowhere) in
            rw (at-place place nowhere low_before, at-place (place + 1) nowhere low_after)
            (e ∙ ap is_gt (parting-map (levels_in levels (get_or spans place nowhere)) (levels_in levels (get_or spans (place + 1) nowhere))))

        next : (b : Bool) → b ≡ is_gt (parts fs_cmp (get_or (paths_in levels spans) place []) (get_or (paths_in levels spans) (place + 1) []))
            → StandsIn levels spans (suc place) (cond b (suc place) ahead)
        next true e = rw after (Stands-less fs_cmp fs_cmp-total (paths_in levels spans) far place ahead inside stood (is_gt-greater _ (sym e)))
        next false e = rw after (Stands-alike fs_cmp fs_cmp-total (paths_in levels spans) far place ahead inside stood (sym e))

    -- the rank that follows
    pub rank_among-at : (place ahead : ℕ) (d : Span) → place < length spans → StandsIn levels spans place ahead
        → rank_among (map (path_in levels) spans) (path_in levels (get_or spans place d)) ≡ length spans - ahead
    rank_among-at place ahead d low stands =
        let inside : place < length (paths_in levels spans) = rw (length-map spans (levels_in levels)) low in
        let count = Stands-count fs_cmp fs_cmp-total (paths_in levels spans) far place ahead inside stands in
        let counted = rw (at-place place d low) at count in
        ap (λ l. rank_among l (path_in levels (get_or spans place d))) (paths-seen levels spans)
        ∙ rank_among-map (paths_in levels spans) (levels_in levels (get_or spans place d))
        ∙ rw (counted, length-map spans (levels_in levels)) refl

    -- One more rank is written, and those before it stay: no two users are one.
    pub ranks-next : (ranks : List ℕ) (place ahead : ℕ) → place < length spans → AreApart spans → (get_or spans place nowhere).user < length ranks
        → StandsIn levels spans place ahead
        → ((k : ℕ) (d : Span) → k < place → get_or ranks (get_or spans k d).user 0 ≡ rank_among (map (path_in levels) spans) (path_in levels (get_or spans k d)))
        → (k : ℕ) (d : Span) → k < place + 1
        → get_or (set ranks (get_or spans place nowhere).user (length spans - ahead)) (get_or spans k d).user 0
        ≡ rank_among (map (path_in levels) spans) (path_in levels (get_or spans k d))
    ranks-next ranks place ahead low apart user stands done k d under =
        elim (cases_eq (get_or spans k d).user (get_or spans place nowhere).user) [
          | inl e ↦
              let same : get_or spans k d ≡ get_or spans place nowhere = apart k d (omega (arith, low, under)) place nowhere low e in
              rw same (get_or-set_same ranks (get_or spans place nowhere).user (length spans - ahead) 0 user ∙ sym (rank_among-at place ahead nowhere low stands))
          | inr other ↦
              let lower : k < place = elim (cases_lt k place) [
                | inl less ↦ less
                | inr more ↦
                    let at : k ≡ place = omega (arith, more, under) in
                    absurd (other (ap (λ (span : Span). span.user) (ap (λ n. get_or spans n d) at ∙ get_or_default spans place d nowhere low)))
              ] in
              get_or-set_other ranks _ _ (length spans - ahead) 0 other ∙ done k d lower
        ]
