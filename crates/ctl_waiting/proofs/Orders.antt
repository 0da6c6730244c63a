-- Elements in order and the first of them, and so jobs in the order of their ranks.
use Rattle.std.proofs.Common.{◌≡◌, ◌⊎◌, ℕ, ◌+◌, ◌≤◌, ◌<◌, Bool, false, ◌&&◌, ◌||◌, cond, eqb, ltb, List, [], ◌∷◌, ◌++◌, length, map, filter, take, get_or, true, Option, Some, None, arith, refl, ap, sym, ◌∙◌, inl, inr}
use Rattle.std.specs.Prelude.{slice_get, IfSome, option_map}
use Rattle.std.specs.Option.{option_map_or}
use Rattle.std.specs.Cmp.{IsStrictWeakOrder}
use Rattle.std.proofs.lemmas.Bool.{cases_Bool}
use Rattle.std.proofs.lemmas.Bool.Decides.{nat_tests}
use Rattle.std.proofs.lemmas.List.{append-nil}
use Rattle.std.proofs.lemmas.List.Elements.{filter_more}
use Rattle.job_table.specs.declared.record.JobRecord.{JobRecord}
use Rattle.job_table.specs.JobStates.{is_pending}
use Rattle.ctl_state.specs.Ordered.{put, ordered_by}
use Rattle.ctl_state.specs.State.{State}
use Rattle.ctl_waiting.specs.declared.rank_keys.RankKey.{RankKey}
use Rattle.ctl_waiting.specs.declared.ranking.Candidate.{Candidate}
use Rattle.ctl_waiting.specs.Rank.{is_above, is_higher, key_of}
use Rattle.ctl_waiting.specs.Candidates.{is_candidate, candidates}

-- an order of mapped elements
put-map : {X Y : Type 0} (before : Y → Y → Bool) (f : X → Y) (x : X) (xs : List X)
    → put before (f x) (map f xs) ≡ map f (put (λ one other. before (f one) (f other)) x xs)
put-map before f x [] = refl
put-map before f x (y ∷ ys) = elim (cases_Bool (before (f y) (f x))) [
  | inl behind ↦ rw (behind, put-map before f x ys) refl
  | inr ahead ↦ rw ahead refl
]

pub ordered-map : {X Y : Type 0} (before : Y → Y → Bool) (f : X → Y) (xs : List X)
    → ordered_by before (map f xs) ≡ map f (ordered_by (λ one other. before (f one) (f other)) xs)
unfolding ordered_by
ordered-map before f [] = refl
ordered-map before f (x ∷ xs) =
    rw (ordered-map before f xs) (put-map before f x (ordered_by (λ one other. before (f one) (f other)) xs))

-- the first of the elements in order
abbrev pub first-of : {X : Type 0} → (X → X → Bool) → X → Option X → Option X
first-of before x None = Some x
first-of before x (Some y) = cond (before y x) (Some y) (Some x)

pub first-put : {X : Type 0} (before : X → X → Bool) (x : X) (xs : List X)
    → slice_get (put before x xs) 0 ≡ first-of before x (slice_get xs 0)
first-put before x [] = refl
first-put before x (y ∷ ys) = elim (cases_Bool (before y x)) [ inl behind ↦ rw behind refl | inr ahead ↦ rw ahead refl ]

-- one more element at the end of a list comes first where it comes before the first
abbrev pub higher : {X : Type 0} → (X → X → Bool) → X → Option X → Option X
higher before x None = Some x
higher before x (Some y) = cond (before x y) (Some x) (Some y)

first-more : {X : Type 0} (before : X → X → Bool) → IsStrictWeakOrder before → (x : X) (xs : List X)
    → slice_get (ordered_by before (xs ++ x ∷ [])) 0 ≡ higher before x (slice_get (ordered_by before xs) 0)
unfolding ordered_by
first-more before weak x [] = refl
first-more {X = X} before weak x (y ∷ ys) =
    let sorted = ordered_by before ys in
    first-put before y (ordered_by before (ys ++ x ∷ [])) ∙ ap (first-of before y) (first-more before weak x ys)
    ∙ turned (slice_get sorted 0) ∙ ap (higher before x) (sym (first-put before y sorted))
  where
    turned : (some : Option X) → first-of before y (higher before x some) ≡ higher before x (first-of before y some)
    turned None = grind (arith, nat_tests)
    turned (Some z) =
        grind (arith, nat_tests, weak.one_way z y, weak.chain x y z, weak.chain x z y)

-- of any two jobs one is higher in rank, or both are alike
not_above : (a b c d : ℕ) → (ltb c a || (eqb c a && ltb d b)) ≡ false → (a < c) ⊎ ((a ≡ c) × (b ≤ d))
not_above a b c d is = elim (cases_Bool (ltb a c)) [
  | inl less ↦ inl (grind (arith, nat_tests))
  | inr other ↦ inr (grind (arith, nat_tests), grind (arith, nat_tests))
]

is_not_above : (a b c d : ℕ) → (a < c) ⊎ ((a ≡ c) × (b ≤ d)) → (ltb c a || (eqb c a && ltb d b)) ≡ false
is_not_above a b c d (inl less) = grind (arith, nat_tests)
is_not_above a b c d (inr (same, most)) = grind (arith, nat_tests)

pub above-weak : {X : Type 0} (key : X → RankKey) → IsStrictWeakOrder (λ one other. is_above (key one) (key other))
unfolding is_above
above-weak {X = X} key = record {
  one_way = λ x y above. one_way (key x).tier (key x).priority (key y).tier (key y).priority above;
  chain = λ x y z first second. is_not_above (key x).tier (key x).priority (key z).tier (key z).priority
      (joined (key x).tier (key x).priority (key y).tier (key y).priority (key z).tier (key z).priority
      (not_above (key x).tier (key x).priority (key y).tier (key y).priority first)
      (not_above (key y).tier (key y).priority (key z).tier (key z).priority second));
}
  where
    one_way : (a b c d : ℕ) → (ltb c a || (eqb c a && ltb d b)) ≡ true → (ltb a c || (eqb a c && ltb b d)) ≡ false
    one_way a b c d above = grind (arith, nat_tests)

    joined : (a b c d e f : ℕ) → (a < c) ⊎ ((a ≡ c) × (b ≤ d)) → (c < e) ⊎ ((c ≡ e) × (d ≤ f))
        → (a < e) ⊎ ((a ≡ e) × (b ≤ f))
    joined a b c d e f (inl less) (inl more) = inl (omega arith)
    joined a b c d e f (inl less) (inr (same, most)) = inl (omega arith)
    joined a b c d e f (inr (same, most)) (inl more) = inl (omega arith)
    joined a b c d e f (inr (same, most)) (inr (alike, least)) = inr (omega arith, omega arith)

pub higher-weak : (s : State) (now : ℕ) → IsStrictWeakOrder (is_higher s now)
unfolding is_higher
higher-weak s now = above-weak (key_of s now)

-- a job, and what it is ranked by at a moment
abbrev pub with_key : State → ℕ → JobRecord → JobRecord × RankKey
with_key s now job = (job, key_of s now job)

-- jobs in order by the keys that stand beside them
pub order-by_keys : {X : Type 0} (s : State) (now : ℕ) (job : X → JobRecord) (key : X → RankKey) (some : List X)
    (jobs : List JobRecord) → map {B = JobRecord × RankKey} (λ one. (job one, key one)) some ≡ map (with_key s now) jobs
    → map job (ordered_by (λ one other. is_above (key one) (key other)) some) ≡ ordered_by (is_higher s now) jobs
unfolding is_higher
order-by_keys {X = X} s now job key some jobs is =
    let both : X → JobRecord × RankKey = λ one. (job one, key one) in
    let above : JobRecord × RankKey → JobRecord × RankKey → Bool = λ one other. is_above one.1 other.1 in
    let sorted = ordered_by (λ one other. is_above (key one) (key other)) some in
    let same : map both sorted ≡ map (with_key s now) (ordered_by (is_higher s now) jobs) =
    sym (ordered-map above both some) ∙ ap (ordered_by above) is ∙ ordered-map above (with_key s now) jobs in
    sym (firsts both sorted) ∙ ap (map (λ (one : JobRecord × RankKey). one.0)) same
    ∙ keyed-firsts (ordered_by (is_higher s now) jobs)
  where
    firsts : (both : X → JobRecord × RankKey) (xs : List X)
        → map (λ (one : JobRecord × RankKey). one.0) (map both xs) ≡ map (λ x. (both x).0) xs
    firsts both [] = refl
    firsts both (x ∷ xs) = ap (λ rest. (both x).0 ∷ rest) (firsts both xs)

    keyed-firsts : (xs : List JobRecord) → map (λ (one : JobRecord × RankKey). one.0) (map (with_key s now) xs) ≡ xs
    keyed-firsts [] = refl
    keyed-firsts (x ∷ xs) = ap (λ rest. x ∷ rest) (keyed-firsts xs)

-- the candidate that is highest in rank
pub highest_of : State → ℕ → List JobRecord → Option JobRecord
highest_of s now jobs = slice_get (ordered_by (is_higher s now) (filter (is_candidate s now) jobs)) 0

pub highest-none : (s : State) (now : ℕ) → highest_of s now [] ≡ None
unfolding highest_of ordered_by
highest-none s now = refl

pub highest-more : (s : State) (now i : ℕ) (job : JobRecord) → i < length s.jobs → job ≡ get_or s.jobs i job
    → highest_of s now (take (i + 1) s.jobs) ≡ cond (is_candidate s now job)
    (higher (is_higher s now) job (highest_of s now (take i s.jobs))) (highest_of s now (take i s.jobs))
unfolding highest_of
highest-more s now i job within is =
    let before = filter (is_candidate s now) (take i s.jobs) in
    let more : filter (is_candidate s now) (take (i + 1) s.jobs)
    ≡ before ++ cond (is_candidate s now job) (job ∷ []) [] =
    rw (filter_more (is_candidate s now) s.jobs i job within, ← is) refl in
    elim (cases_Bool (is_candidate s now job)) [
      | inl can ↦ rw (more, can) (first-more (is_higher s now) (higher-weak s now) job before)
      | inr other ↦ rw (more, other, append-nil before) refl
    ]

pub highest-is : (s : State) (now : ℕ) → highest_of s now s.jobs ≡ slice_get (candidates s now) 0
unfolding highest_of candidates
highest-is s now = refl

-- whether what is ranked by a key is above the candidate that is found, where one is
abbrev pub above_found : RankKey → Option Candidate → Bool
above_found key found = option_map_or (λ (one : Candidate). is_above key one.key) found true

chosen : {X : Type 0} (a b : Bool) (x y : X) → cond a (cond b x y) y ≡ cond (a && b) x y
chosen true b x y = refl
chosen false b x y = refl

-- the highest with one job more, by the candidate that is found among those before it, with its key
pub highest-found : (s : State) (now i : ℕ) (job : JobRecord) (found : Option Candidate) → i < length s.jobs
    → job ≡ get_or s.jobs i job
    → option_map (λ (one : Candidate). one.job.now) found ≡ highest_of s now (take i s.jobs)
    → IfSome found (λ (one : Candidate). one.key ≡ key_of s now one.job.now)
    → highest_of s now (take (i + 1) s.jobs) ≡ cond (is_candidate s now job && above_found (key_of s now job) found)
    (Some job) (option_map (λ (one : Candidate). one.job.now) found)
unfolding is_higher
highest-found s now i job found within is held keyed =
    let can = is_candidate s now job in
    highest-more s now i job within is
    ∙ ap (λ was. cond can (higher (is_higher s now) job was) was) (sym held) ∙ by found keyed where
      by : (found : Option Candidate) → IfSome found (λ (one : Candidate). one.key ≡ key_of s now one.job.now)
          → cond (is_candidate s now job)
          (higher (is_higher s now) job (option_map (λ (one : Candidate). one.job.now) found))
          (option_map (λ (one : Candidate). one.job.now) found)
          ≡ cond (is_candidate s now job && above_found (key_of s now job) found) (Some job)
          (option_map (λ (one : Candidate). one.job.now) found)
      by None keyed = chosen (is_candidate s now job) true (Some job) None
      by (Some one) keyed =
          chosen (is_candidate s now job) (is_above (key_of s now job) (key_of s now one.job.now)) (Some job) (Some one.job.now)
          ∙ ap (λ key. cond (is_candidate s now job && is_above (key_of s now job) key) (Some job) (Some one.job.now)) (sym keyed)

-- it stays where that job is no candidate, and where it isn't above the one that is found; else it is that job
pub highest-kept : (s : State) (now i : ℕ) (job : JobRecord) (found : Option Candidate) → i < length s.jobs
    → job ≡ get_or s.jobs i job
    → option_map (λ (one : Candidate). one.job.now) found ≡ highest_of s now (take i s.jobs)
    → IfSome found (λ (one : Candidate). one.key ≡ key_of s now one.job.now)
    → is_candidate s now job ≡ false
    → option_map (λ (one : Candidate). one.job.now) found ≡ highest_of s now (take (i + 1) s.jobs)
highest-kept s now i job found within is held keyed other =
    sym (highest-found s now i job found within is held keyed
    ∙ ap (λ b. cond (b && above_found (key_of s now job) found) (Some job) (option_map (λ (one : Candidate). one.job.now) found)) other)

pub highest-below : (s : State) (now i : ℕ) (job : JobRecord) (found : Option Candidate) (key : RankKey) → i < length s.jobs
    → job ≡ get_or s.jobs i job
    → option_map (λ (one : Candidate). one.job.now) found ≡ highest_of s now (take i s.jobs)
    → IfSome found (λ (one : Candidate). one.key ≡ key_of s now one.job.now)
    → key ≡ key_of s now job → above_found key found ≡ false
    → option_map (λ (one : Candidate). one.job.now) found ≡ highest_of s now (take (i + 1) s.jobs)
highest-below s now i job found key within is held keyed own below =
    let was = option_map (λ (one : Candidate). one.job.now) found in
    sym (highest-found s now i job found within is held keyed
    ∙ ap (λ b. cond (is_candidate s now job && b) (Some job) was) (ap (λ key. above_found key found) (sym own) ∙ below)
    ∙ sym (chosen (is_candidate s now job) false (Some job) was) ∙ same (is_candidate s now job) was) where
      same : (b : Bool) (x : Option JobRecord) → cond b x x ≡ x
      same true x = refl
      same false x = refl

pub highest-raised : (s : State) (now i : ℕ) (job : JobRecord) (found : Option Candidate) (key : RankKey) → i < length s.jobs
    → job ≡ get_or s.jobs i job
    → option_map (λ (one : Candidate). one.job.now) found ≡ highest_of s now (take i s.jobs)
    → IfSome found (λ (one : Candidate). one.key ≡ key_of s now one.job.now)
    → key ≡ key_of s now job → is_candidate s now job ≡ true → above_found key found ≡ true
    → Some job ≡ highest_of s now (take (i + 1) s.jobs)
highest-raised s now i job found key within is held keyed own can above =
    let was = option_map (λ (one : Candidate). one.job.now) found in
    sym (highest-found s now i job found within is held keyed
    ∙ ap (λ b. cond (b && above_found (key_of s now job) found) (Some job) was) can
    ∙ ap (λ b. cond b (Some job) was) (ap (λ key. above_found key found) (sym own) ∙ above))

-- a job that isn't pending is no candidate
pub not_pending : (s : State) (now : ℕ) (job : JobRecord) → is_pending job.state ≡ false → is_candidate s now job ≡ false
not_pending s now job other = rw other refl
