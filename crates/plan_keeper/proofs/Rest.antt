-- The rest of both lists, from where they part.
use Rattle.std.proofs.Common.{◌≡◌, ◌≢◌, ℕ, ◌+◌, ◌-◌, ◌≤◌, ◌<◌, zero, suc, Bool, true, false, ◌||◌, not, ltb, List, [], ◌∷◌, length, take, drop, set, replicate, All, arith, refl, ap, subst, sym, ◌∙◌, inl, inr, get_or, sum_by, Option, Some, None}
use Rattle.std.specs.Prelude.{IfSome, IfNone}
use Rattle.std.proofs.Math.Seq.{take-add}
use Rattle.std.proofs.lemmas.Bool.{cases_lt, lt-ltb, le-ltb, ltb-false, or_left, or_right, or_from, or_cases, or_parts, and_parts}
use Rattle.std.proofs.lemmas.List.{get_or-drop, length-drop, length-replicate, get_or-replicate, length-set, get_or-set_same, get_or-set_other}
use Rattle.std.proofs.lemmas.List.Sums.{sum_by-cons, sum_by-append}
use Rattle.std.proofs.lemmas.List.Elements.{All-head, All-tail}
use Rattle.backfill_planner.specs.declared.job.PlanJob.{PlanJob}
use Rattle.backfill_planner.specs.Plans.{PlannedView, PlanningView}
use Rattle.plan_keeper.specs.Steady.{may_have_node, IsNamedOnce, IsSameFrom}
use Rattle.plan_keeper.specs.Marks.{on, times, times_before, met_from, AreCounts, AreMarks, Counts, Fits, Meets, Without}
use Rattle.plan_keeper.specs.Planner.{PlannerLaws}
use Rattle.plan_keeper.specs.Turns.{IsFound}
use Rattle.plan_keeper.proofs.Times.{times-next, sums-same}
use Rattle.plan_keeper.proofs.Marking.{marks-met}
use Rattle.plan_keeper.proofs.Turning.{marks-behind}

-- sums of numbers that add up add up
sums-add : (one other both : ℕ → ℕ) (xs : List ℕ) → All (λ x. one x + other x ≡ both x) xs → sum_by one xs + sum_by other xs ≡ sum_by both xs
sums-add one other both [] add = refl
sums-add one other both (x ∷ xs) add =
    omega (arith, sum_by-cons one x xs, sum_by-cons other x xs, sum_by-cons both x xs, All-head (λ x. one x + other x ≡ both x) x xs add, sums-add one other both xs (All-tail (λ x. one x + other x ≡ both x) x xs add))

-- the first jobs and those behind them
times-behind : (node : ℕ) (jobs : List PlanJob) (first more : ℕ) → times node (take more (drop first jobs)) + times node (take first jobs) ≡ times node (take (first + more) jobs)
times-behind node jobs first more = rw (take-add first more jobs) (omega (arith, sum_by-append (on node) (take first jobs) (take more (drop first jobs))))

-- what is counted behind the first jobs, with these
sum-behind : (old ranked : List PlanJob) (first place nodes : ℕ) (same : List Bool) (counts : List ℕ) (met : List Bool) (job : PlanJob) (more : ℕ) → AreCounts old ranked first place nodes same counts met → All (λ node. node < nodes) job.nodes → All (λ node. get_or same node false ≡ true) job.nodes → sum_by (λ node. get_or counts node 0) job.nodes + sum_by (times_before old first) job.nodes ≡ sum_by (times_before ranked place) job.nodes
sum-behind old ranked first place nodes same counts met job more are inside marked =
    omega (
      arith,
      sums-add (λ node. get_or counts node 0) (times_before ranked are.first_new) (times_before ranked place) job.nodes (λ k d below. are.counted (get_or job.nodes k d) 0 (inside k d below)),
      sums-same (times_before ranked are.first_new) (times_before old first) job.nodes (λ k d below. are.level (get_or job.nodes k d) (inside k d below) (marked k d below)),
    )

depth-behind : (old : List PlanJob) (first more : ℕ) (job : PlanJob) → sum_by (times_before (drop first old) more) job.nodes + sum_by (times_before old first) job.nodes ≡ sum_by (times_before old (first + more)) job.nodes
depth-behind old first more job = sums-add (times_before (drop first old) more) (times_before old first) (times_before old (first + more)) job.nodes (λ k d below. times-behind (get_or job.nodes k d) old first more)

-- a job that fits at a place of the rest fits in the whole list
pub fits-behind : (old ranked : List PlanJob) (now first place nodes : ℕ) (counts : List ℕ) (met same : List Bool) (job : PlanJob) (more : ℕ) → AreCounts old ranked first place nodes same counts met → All (λ node. node < nodes) job.nodes → Fits (drop first old) same (λ node. get_or counts node 0) (λ before. get_or met before false) now job more → Fits old same (times_before ranked place) (met_from first met) now job (first + more)
fits-behind old ranked now first place nodes counts met same job more are inside fits = record {
  there = omega (arith, fits.there, length-drop first old);
  is = λ d. subst (λ (one : PlanJob). IsSameFrom now one job) (get_or-drop first old more d) (fits.is d);
  fresh =
      let at : first + more - first ≡ more = omega arith in
      or_from (ltb (first + more) first) (get_or met (first + more - first) false) (le-ltb (first + more) first (omega arith)) (rw at fits.fresh);
  unchanged = fits.unchanged;
  level = omega (arith, fits.level, sum-behind old ranked first place nodes same counts met job more are inside fits.unchanged, depth-behind old first more job);
}

-- one that fits in the whole list does so behind the first jobs, which are met
pub behind-first : (first before : ℕ) (met : List Bool) → met_from first met before ≡ false → first ≤ before
behind-first first before met fresh = ltb-false before first (or_parts (ltb before first) (get_or met (before - first) false) fresh).0

behind-fits : (old ranked : List PlanJob) (now first place nodes : ℕ) (counts : List ℕ) (met same : List Bool) (job : PlanJob) (more : ℕ) → AreCounts old ranked first place nodes same counts met → All (λ node. node < nodes) job.nodes → Fits old same (times_before ranked place) (met_from first met) now job (first + more) → Fits (drop first old) same (λ node. get_or counts node 0) (λ before. get_or met before false) now job more
behind-fits old ranked now first place nodes counts met same job more are inside fits = record {
  there = omega (arith, fits.there, length-drop first old);
  is = λ d. subst (λ (one : PlanJob). IsSameFrom now one job) (sym (get_or-drop first old more d)) (fits.is d);
  fresh =
      let at : first + more - first ≡ more = omega arith in
      rw at at ((or_parts (ltb (first + more) first) (get_or met (first + more - first) false) fits.fresh).1);
  unchanged = fits.unchanged;
  level = omega (arith, fits.level, sum-behind old ranked first place nodes same counts met job more are inside fits.unchanged, depth-behind old first more job);
}

-- where a place's id is named once in the whole list it is in the rest
once-behind : (old : List PlanJob) (first more : ℕ) → first ≤ length old → IsNamedOnce old (first + more) → IsNamedOnce (drop first old) more
once-behind old first more few once other d below same =
    let here : first + other ≡ first + more = once (first + other) d (omega (arith, below, length-drop first old, few)) (ap (λ (job : PlanJob). job.id) (sym (get_or-drop first old other d)) ∙ same ∙ ap (λ (job : PlanJob). job.id) (get_or-drop first old more d)) in
    omega (arith, here)

pub nowhere-behind : (old ranked : List PlanJob) (now first place nodes : ℕ) (counts : List ℕ) (met same : List Bool) (job : PlanJob) → AreCounts old ranked first place nodes same counts met → All (λ node. node < nodes) job.nodes
    → ((before : ℕ) → IsNamedOnce (drop first old) before → Fits (drop first old) same (λ node. get_or counts node 0) (λ before. get_or met before false) now job before → ⊥)
    → (before : ℕ) → IsNamedOnce old before → Fits old same (times_before ranked place) (met_from first met) now job before → ⊥
nowhere-behind old ranked now first place nodes counts met same job are inside nowhere before once fits =
    let at : before ≡ first + (before - first) = omega (arith, behind-first first before met fits.fresh) in
    let once_at : IsNamedOnce old (first + (before - first)) = subst (λ place. IsNamedOnce old place) at once in
    let fits_at : Fits old same (times_before ranked place) (met_from first met) now job (first + (before - first)) = subst (λ at. Fits old same (times_before ranked place) (met_from first met) now job at) at fits in
    nowhere (before - first) (once-behind old first (before - first) are.few once_at) (behind-fits old ranked now first place nodes counts met same job (before - first) are inside fits_at)

-- the marks where the lists part
no-more : (count at : ℕ) → get_or (replicate count false) at false ≡ false
no-more count at = elim (cases_lt at count) [
  | inl inside ↦ get_or-replicate count at false false inside
  | inr past ↦ past_all (replicate count false) at (omega (arith, past, length-replicate count false))
]
  where
    past_all : (xs : List Bool) (at : ℕ) → length xs ≤ at → get_or xs at false ≡ false
    past_all [] at past = refl
    past_all (x ∷ xs) zero past = absurd (omega (arith, past))
    past_all (x ∷ xs) (suc at) past = past_all xs at (omega (arith, past))

pub parted-marks : (old : PlannedView) (planning : PlanningView) (place : ℕ) (same : List Bool) (rest : ℕ) → AreMarks old planning.base planning.ranked planning.moment planning.done same (met_from place []) → AreMarks old planning.base planning.ranked planning.moment planning.done same (met_from place (replicate rest false))
parted-marks old planning place same rest marks =
    marks-met old planning.base planning.ranked planning.moment planning.done same (met_from place []) (met_from place (replicate rest false)) marks
    (λ before met. elim (or_cases (ltb before place) false met) [
      | inl earlier ↦ or_left (ltb before place) (get_or (replicate rest false) (before - place) false) earlier
      | inr none ↦ absurd cc
    ])
    (λ before inside met. marks.known before inside (elim (or_cases (ltb before place) (get_or (replicate rest false) (before - place) false) met) [
      | inl earlier ↦ or_left (ltb before place) false earlier
      | inr later ↦ absurd (let wrong = sym (no-more rest (before - place)) ∙ later in cc)
    ]))

pub parted-counts : (old : PlannedView) (planning : PlanningView) (place nodes rest : ℕ) (same : List Bool) → place ≤ length old.ranked → place + rest ≡ length old.ranked → ((node : ℕ) → node < nodes → get_or same node false ≡ true → times node (take planning.done planning.ranked) ≡ times node (take place old.ranked)) → AreCounts old.ranked planning.ranked place planning.done nodes same (replicate nodes 0) (replicate rest false)
parted-counts old planning place nodes rest same few all level = record {
  few = few;
  long = length-replicate nodes 0;
  met_long = omega (arith, all, length-replicate rest false);
  first_new = planning.done;
  level = level;
  counted = λ node d inside. omega (arith, get_or-replicate nodes node 0 d inside);
}

-- a job more of the rest is met
pub meets-behind : (first : ℕ) (met : List Bool) (more : ℕ) → more < length met → Meets (met_from first met) (first + more) (met_from first (set met more true))
meets-behind first met more inside = record {
  here =
      let at : first + more - first ≡ more = omega arith in
      or_right (ltb (first + more) first) (get_or (set met more true) (first + more - first) false) (rw at (get_or-set_same met more true false inside));
  others = λ other apart. elim (cases_lt other first) [
    | inl earlier ↦
        let first_is : ltb other first ≡ true = lt-ltb other first earlier in
        rw first_is refl
    | inr later ↦
        ap (λ marked. ltb other first || marked) (get_or-set_other met more (other - first) true false (apart_behind other apart later))
  ];
}
  where
    apart_behind : (other : ℕ) → other ≢ first + more → first ≤ other → other - first ≢ more
    apart_behind other apart later = λ same. apart (omega (arith, same, later))

-- and its nodes are counted
pub counts-behind : (old ranked : List PlanJob) (first place nodes : ℕ) (same : List Bool) (counts : List ℕ) (met new_same : List Bool) (new_counts : List ℕ) (new_met : List Bool) (job : PlanJob) → AreCounts old ranked first place nodes same counts met → place < length ranked → ((d : PlanJob) → get_or ranked place d ≡ job) → Counts counts job new_counts → length new_met ≡ length met → ((node : ℕ) → node < nodes → get_or new_same node false ≡ true → get_or same node false ≡ true) → AreCounts old ranked first (place + 1) nodes new_same new_counts new_met
counts-behind old ranked first place nodes same counts met new_same new_counts new_met job are below is more long fewer = record {
  few = are.few;
  long = more.long ∙ are.long;
  met_long = omega (arith, long, are.met_long);
  first_new = are.first_new;
  level = λ node inside marked. are.level node inside (fewer node inside marked);
  counted = λ node d inside.
      omega (arith, are.counted node d inside, more.each node d (omega (arith, inside, are.long)), times-next node ranked place job below, ap (λ one. on node one) (is job));
}

-- no node comes to be marked
pub fewer-marked : (same new_same met new_met : List Bool) (nodes : ℕ) (job : PlanJob) (more : Option ℕ) → length same ≡ nodes → IfSome more (λ more. (new_same ≡ same) × (new_met ≡ set met more true)) → IfNone more ((new_met ≡ met) × Without same job new_same) → (node : ℕ) → node < nodes → get_or new_same node false ≡ true → get_or same node false ≡ true
fewer-marked same new_same met new_met nodes job (Some more) long some none node inside marked = rw some.0 at marked
fewer-marked same new_same met new_met nodes job None long some none node inside marked =
    (and_parts (get_or same node false) (not (may_have_node node job)) (sym (none.1.each node (omega (arith, inside, long))) ∙ marked)).0

-- what was found of a job stands behind the first ones
pub found-behind : (old : PlannedView) (planning : PlanningView) (same : List Bool) (first : ℕ) (met : List Bool) (found : Option ℕ) (job : PlanJob) → IsFound old planning same (met_from first met) found → IfSome found (λ before. first ≤ before)
found-behind old planning same first met None job are = tt
found-behind old planning same first met (Some before) job are = behind-first first before met (are job).fits.fresh

pub place-behind : (old : PlannedView) (planning : PlanningView) (same : List Bool) (first place nodes : ℕ) (counts : List ℕ) (met : List Bool) (found more : Option ℕ) (job : PlanJob) → AreCounts old.ranked planning.ranked first place nodes same counts met → IsFound old planning same (met_from first met) found → IfSome more (λ more. found ≡ Some (first + more)) → IfSome more (λ more. more < length met)
place-behind old planning same first place nodes counts met found None job counted are at = tt
place-behind old planning same first place nodes counts met found (Some more) job counted are at =
    let here : IsFound old planning same (met_from first met) (Some (first + more)) = rw at at are in
    omega (arith, (here job).fits.there, counted.met_long)

-- the marks behind one more job of the rest
pub rest-marks : PlannerLaws → (old : PlannedView) (planning : PlanningView) (first : ℕ) (same new_same : List Bool) (counts : List ℕ) (met new_met : List Bool) (found more : Option ℕ) (job : PlanJob) → AreMarks old planning.base planning.ranked planning.moment planning.done same (met_from first met) → AreCounts old.ranked planning.ranked first planning.done (length planning.base.rooms) same counts met → planning.done < length planning.ranked → ((d : PlanJob) → get_or planning.ranked planning.done d ≡ job) → All (λ node. node < length planning.base.rooms) job.nodes → IsFound old planning same (met_from first met) found
    → IfSome more (λ more. found ≡ Some (first + more)) → IfNone more (found ≡ None)
    → IfSome more (λ more. (new_same ≡ same) × (new_met ≡ set met more true)) → IfNone more ((new_met ≡ met) × Without same job new_same)
    → AreMarks old planning.base planning.ranked planning.moment (planning.done + 1) new_same (met_from first new_met)
rest-marks laws old planning first same new_same counts met new_met found (Some more) job marks counted below is nodes are at nowhere some none =
    let here : IsFound old planning same (met_from first met) (Some (first + more)) = rw at at are in
    let inside : more < length met = place-behind old planning same first planning.done (length planning.base.rooms) counts met found (Some more) job counted are at in
    rw some.1 (marks-behind laws old planning same (met_from first met) new_same (met_from first (set met more true)) (Some (first + more)) job marks below is nodes here (some.0, meets-behind first met more inside) tt)
rest-marks laws old planning first same new_same counts met new_met found None job marks counted below is nodes are at nowhere some none =
    let here : IsFound old planning same (met_from first met) None = rw nowhere at are in
    rw none.0 (marks-behind laws old planning same (met_from first met) new_same (met_from first met) None job marks below is nodes here tt (refl, none.1))

pub met-long : (met new_met same new_same : List Bool) (job : PlanJob) (more : Option ℕ) → IfSome more (λ more. (new_same ≡ same) × (new_met ≡ set met more true)) → IfNone more ((new_met ≡ met) × Without same job new_same) → length new_met ≡ length met
met-long met new_met same new_same job (Some more) some none = rw some.1 (length-set met more true)
met-long met new_met same new_same job None some none = rw none.0 refl
