-- Jobs in the order of their ranks, by keys that stand beside them.
use Rattle.std.proofs.lemmas.Bool.Decides.{nat_tests}
use Rattle.std.proofs.Common.{◌≡◌, ◌⊎◌, ℕ, ◌≤◌, ◌<◌, Bool, false, true, ◌&&◌, ◌||◌, eqb, ltb, List, [], ◌∷◌, ◌++◌, map, reverse, refl, ap, sym, ◌∙◌, inl, inr, arith}
use Rattle.std.specs.Cmp.{IsStrictWeakOrder}
use Rattle.std.proofs.lemmas.Bool.{cases_Bool}
use Rattle.std.proofs.lemmas.List.{map-append, reverse-append}
use Rattle.job_table.specs.declared.record.JobRecord.{JobRecord}
use Rattle.ctl_state.specs.Ordered.{put, ordered_by}
use Rattle.ctl_state.specs.State.{State}
use Rattle.ctl_waiting.specs.declared.rank_keys.RankKey.{RankKey}
use Rattle.ctl_waiting.specs.Rank.{is_above, is_higher, key_of}

-- an order of mapped elements
put-map : {X Y : Type 0} (before : Y → Y → Bool) (f : X → Y) (x : X) (xs : List X)
    → put before (f x) (map f xs) ≡ map f (put (λ one other. before (f one) (f other)) x xs)
put-map before f x [] = refl
put-map before f x (y ∷ ys) = elim (cases_Bool (before (f y) (f x))) [
  | inl behind ↦ rw (behind, put-map before f x ys) refl
  | inr ahead ↦ rw ahead refl
]

ordered-map : {X Y : Type 0} (before : Y → Y → Bool) (f : X → Y) (xs : List X)
    → ordered_by before (map f xs) ≡ map f (ordered_by (λ one other. before (f one) (f other)) xs)
unfolding ordered_by
ordered-map before f [] = refl
ordered-map before f (x ∷ xs) =
    rw (ordered-map before f xs) (put-map before f x (ordered_by (λ one other. before (f one) (f other)) xs))

-- of any two keys one is above the other, or both are alike
not_above : (a b c d : ℕ) → (ltb c a || (eqb c a && ltb d b)) ≡ false → (a < c) ⊎ ((a ≡ c) × (b ≤ d))
not_above a b c d is = elim (cases_Bool (ltb a c)) [
  | inl less ↦ inl (grind (arith, nat_tests))
  | inr other ↦ inr (grind (arith, nat_tests), grind (arith, nat_tests))
]

is_not_above : (a b c d : ℕ) → (a < c) ⊎ ((a ≡ c) × (b ≤ d)) → (ltb c a || (eqb c a && ltb d b)) ≡ false
is_not_above a b c d (inl less) = grind (arith, nat_tests)
is_not_above a b c d (inr (same, most)) = grind (arith, nat_tests)

pub above-weak : {X : Type 0} (key : X → RankKey) → IsStrictWeakOrder (λ one other. is_above (key one) (key other))
unfolding is_above
above-weak {X = X} key = record {
  one_way = λ x y above. one_way (key x).tier (key x).priority (key y).tier (key y).priority above;
  chain = λ x y z first second. is_not_above (key x).tier (key x).priority (key z).tier (key z).priority
      (joined (key x).tier (key x).priority (key y).tier (key y).priority (key z).tier (key z).priority
      (not_above (key x).tier (key x).priority (key y).tier (key y).priority first)
      (not_above (key y).tier (key y).priority (key z).tier (key z).priority second));
}
  where
    one_way : (a b c d : ℕ) → (ltb c a || (eqb c a && ltb d b)) ≡ true → (ltb a c || (eqb a c && ltb b d)) ≡ false
    one_way a b c d above = grind (arith, nat_tests)

    joined : (a b c d e f : ℕ) → (a < c) ⊎ ((a ≡ c) × (b ≤ d)) → (c < e) ⊎ ((c ≡ e) × (d ≤ f))
        → (a < e) ⊎ ((a ≡ e) × (b ≤ f))
    joined a b c d e f (inl less) (inl more) = inl (omega arith)
    joined a b c d e f (inl less) (inr (same, most)) = inl (omega arith)
    joined a b c d e f (inr (same, most)) (inl more) = inl (omega arith)
    joined a b c d e f (inr (same, most)) (inr (alike, least)) = inr (omega arith, omega arith)

-- a job, and what it is ranked by at a moment
abbrev pub with_key : State → ℕ → JobRecord → JobRecord × RankKey
with_key s now job = (job, key_of s now job)

-- jobs in order by the keys that stand beside them
pub order-by_keys : {X : Type 0} (s : State) (now : ℕ) (job : X → JobRecord) (key : X → RankKey) (some : List X)
    (jobs : List JobRecord) → map {B = JobRecord × RankKey} (λ one. (job one, key one)) some ≡ map (with_key s now) jobs
    → map job (ordered_by (λ one other. is_above (key one) (key other)) some) ≡ ordered_by (is_higher s now) jobs
unfolding is_higher
order-by_keys {X = X} s now job key some jobs is =
    let both : X → JobRecord × RankKey = λ one. (job one, key one) in
    let above : JobRecord × RankKey → JobRecord × RankKey → Bool = λ one other. is_above one.1 other.1 in
    let sorted = ordered_by (λ one other. is_above (key one) (key other)) some in
    let same : map both sorted ≡ map (with_key s now) (ordered_by (is_higher s now) jobs) =
    sym (ordered-map above both some) ∙ ap (ordered_by above) is ∙ ordered-map above (with_key s now) jobs in
    sym (firsts both sorted) ∙ ap (map (λ (one : JobRecord × RankKey). one.0)) same
    ∙ keyed-firsts (ordered_by (is_higher s now) jobs)
  where
    firsts : (both : X → JobRecord × RankKey) (xs : List X)
        → map (λ (one : JobRecord × RankKey). one.0) (map both xs) ≡ map (λ x. (both x).0) xs
    firsts both [] = refl
    firsts both (x ∷ xs) = ap (λ rest. (both x).0 ∷ rest) (firsts both xs)

    keyed-firsts : (xs : List JobRecord) → map (λ (one : JobRecord × RankKey). one.0) (map (with_key s now) xs) ≡ xs
    keyed-firsts [] = refl
    keyed-firsts (x ∷ xs) = ap (λ rest. x ∷ rest) (keyed-firsts xs)

-- a mapped list turned round
pub map-reverse : {X Y : Type 0} (f : X → Y) (xs : List X) → map f (reverse xs) ≡ reverse (map f xs)
map-reverse f [] = refl
map-reverse f (x ∷ xs) =
    ap (map f) (reverse-append (x ∷ []) xs) ∙ map-append f (reverse xs) (x ∷ [])
    ∙ ap (λ rest. rest ++ f x ∷ []) (map-reverse f xs) ∙ sym (reverse-append (f x ∷ []) (map f xs))

-- and jobs in order by the keys that stand beside them, the lowest first
pub lowest-by_keys : {X : Type 0} (s : State) (now : ℕ) (job : X → JobRecord) (key : X → RankKey) (some sorted : List X)
    (jobs : List JobRecord) → map {B = JobRecord × RankKey} (λ one. (job one, key one)) some ≡ map (with_key s now) jobs
    → sorted ≡ ordered_by (λ one other. is_above (key one) (key other)) some
    → map job (reverse sorted) ≡ reverse (ordered_by (is_higher s now) jobs)
lowest-by_keys s now job key some sorted jobs same is =
    map-reverse job sorted ∙ ap reverse (ap (map job) is ∙ order-by_keys s now job key some jobs same)
