-- When a job may not have a node, and how long.
use Rattle.std.proofs.Common.{◌≡◌, ◌≢◌, ℕ, ◌+◌, ◌≤◌, ◌<◌, suc, Bool, true, false, ◌&&◌, cond, eqb, ltb, List, [], ◌∷◌, length, take, get_or, All, arith, refl, ap, subst, ◌∙◌, inl, inr, Option, Some, None}
use Rattle.std.specs.Prelude.{Any, bytes_eq, find, option_map, unwrap_or}
use Rattle.std.specs.List.{list_any}
use Rattle.std.proofs.lemmas.Bool.{cases_Bool, cases_lt, and_parts, and_from, eqb-true, eq-eqb, ltb-true, lt-ltb, or_from, false_from_ne_true}
use Rattle.std.proofs.lemmas.List.Folds.{Any-from_list_any, list_any_at}
use Rattle.std.proofs.lemmas.List.Elements.{All-weaker, All-more}
use Rattle.std.proofs.lemmas.Slice.Eq.{slice_eq-Decides, bytes_eq-Decides}
use Rattle.std.specs.Bool.{Decides}
use Rattle.std.specs.Cmp.Lexicographic.{pointwise}
use Rattle.plain_data.specs.Rows.{has_id}
use Rattle.backfill_planner.specs.declared.job.Barred.{Barred}
use Rattle.backfill_planner.specs.declared.job.PlanJob.{PlanJob}
use Rattle.backfill_planner.specs.Giving.{window_end, bars, is_barred}
use Rattle.plain_data.specs.declared.seconds.TheConstants.{FOREVER}

pub record Crosses (node from until : ℕ) (time : Barred) : Type 0 where
  pub node_is : has_id time.nodes node ≡ true
  pub ends : from < time.until
  pub begins : time.from < until

pub what_bars : (node from until : ℕ) (time : Barred) → bars node from until time ≡ true → Crosses node from until time
what_bars node from until time is =
    let parts = and_parts (has_id time.nodes node) (ltb from time.until && ltb time.from until) is in
    let seconds = and_parts (ltb from time.until) (ltb time.from until) parts.1 in
    record { node_is = parts.0; ends = ltb-true from time.until seconds.0; begins = ltb-true time.from until seconds.1 }

pub bars_at : (node from until : ℕ) (time : Barred) → Crosses node from until time → bars node from until time ≡ true
bars_at node from until time is =
    and_from (has_id time.nodes node) (ltb from time.until && ltb time.from until) is.node_is
    (and_from (ltb from time.until) (ltb time.from until) (lt-ltb from time.until is.ends) (lt-ltb time.from until is.begins))

-- what is barred at some seconds is barred at others, where each time that crosses those crosses these
pub barred-also : (barred : List Barred) (node from until other_from other_until : ℕ) → All (λ (time : Barred). Crosses node from until time → Crosses node other_from other_until time) barred → is_barred barred node from until ≡ true → is_barred barred node other_from other_until ≡ true
barred-also barred node from until other_from other_until also is =
    let any = Any-from_list_any (bars node from until) barred is in
    let passes = ap (bars node from until) any.3 ∙ any.4 in
    list_any_at (bars node other_from other_until) barred any.0 any.1 any.2
    (bars_at node other_from other_until _ (also any.0 any.1 any.2 (what_bars node from until _ passes)))

pub window-order : (job : PlanJob) (second later : ℕ) → second ≤ later → window_end job second ≤ window_end job later
window-order job second later order = by job.seconds
  where
    by : (seconds : Option ℕ) → unwrap_or (option_map (λ s. second + s) seconds) FOREVER ≤ unwrap_or (option_map (λ s. later + s) seconds) FOREVER
    by None = omega arith
    by (Some seconds) = omega (arith, order)

-- a job that may not have the node may not have it a second later, if none of the times is over then
pub barred-next : (job : PlanJob) (node moment : ℕ) → All (λ (time : Barred). time.until ≢ moment + 1) job.barred → is_barred job.barred node moment (window_end job moment) ≡ true → is_barred job.barred node (moment + 1) (window_end job (moment + 1)) ≡ true
barred-next job node moment quiet =
    barred-also job.barred node moment (window_end job moment) (moment + 1) (window_end job (moment + 1))
    (All-weaker (λ (time : Barred). time.until ≢ moment + 1) (λ (time : Barred). Crosses node moment (window_end job moment) time → Crosses node (moment + 1) (window_end job (moment + 1)) time)
    (λ time lasts is. record {
      node_is = is.node_is;
      ends = omega (arith, is.ends, lasts);
      begins = omega (arith, is.begins, window-order job moment (moment + 1) (omega arith));
    }) job.barred quiet)

-- nor over a longer window
pub barred-longer : (barred : List Barred) (node from until longer : ℕ) → until ≤ longer → is_barred barred node from until ≡ true → is_barred barred node from longer ≡ true
barred-longer barred node from until longer order =
    barred-also barred node from until from longer
    (λ k d inside is. record { node_is = is.node_is; ends = is.ends; begins = omega (arith, is.begins, order) })

-- a job that may have the node may have it later, as long as its window meets the begin of no time
pub clear-later : (barred : List Barred) (node from until later later_until last : ℕ) → is_barred barred node from until ≡ false → All (λ (time : Barred). has_id time.nodes node ≡ true → until ≤ time.from → last ≤ time.from) barred → from ≤ later → later_until ≤ last → is_barred barred node later later_until ≡ false
clear-later barred node from until later later_until last clear least order within =
    false_from_ne_true (is_barred barred node later later_until) (λ is.
    let wrong = barred-also barred node later later_until from until
    (All-weaker (λ (time : Barred). has_id time.nodes node ≡ true → until ≤ time.from → last ≤ time.from) (λ (time : Barred). Crosses node later later_until time → Crosses node from until time)
    (λ time begins at. record { node_is = at.node_is; ends = omega (arith, at.ends, order); begins = before time.from (begins at.node_is) at.begins }) barred least) is in
    absurd cc)
  where
    before : (begin : ℕ) → (until ≤ begin → last ≤ begin) → begin < later_until → begin < until
    before begin least low = elim (cases_lt begin until) [
      | inl early ↦ early
      | inr at ↦ absurd (omega (arith, least at, low, within))
    ]

-- the time that was found
pub record IsFound (test : Barred → Bool) (end : ℕ) (time : Barred) : Type 0 where
  pub passes : test time ≡ true
  pub end_is : time.until ≡ end

pub found-some : (test : Barred → Bool) (barred : List Barred) (end : ℕ) → option_map (λ (time : Barred). time.until) (find test barred) ≡ Some end → Any (IsFound test end) barred
found-some test [] end is = absurd cc
found-some test (time ∷ barred) end is = elim (cases_Bool (test time)) [
  | inl passes ↦
      let here : Some time.until ≡ Some end = rw passes at is in
      (0, time, omega arith, refl, record { passes = passes; end_is = cc })
  | inr fails ↦
      let later = found-some test barred end (rw fails at is) in
      (suc later.0, later.1, omega (arith, later.2), later.3, later.4)
]

pub found-none : (test : Barred → Bool) (barred : List Barred) → option_map (λ (time : Barred). time.until) (find test barred) ≡ None → list_any test barred ≡ false
found-none test [] is = refl
found-none test (time ∷ barred) is = elim (cases_Bool (test time)) [
  | inl passes ↦ let here : Some time.until ≡ None = rw passes at is in absurd cc
  | inr fails ↦ or_from (test time) (list_any test barred) fails (found-none test barred (rw fails at is))
]

-- until that time is over the job may not have the node
pub record IsBarredUntil (job : PlanJob) (node from until : ℕ) : Type 0 where
  pub later : from < until
  pub barred : (second : ℕ) → from ≤ second → second < until → is_barred job.barred node second (window_end job second) ≡ true

pub barred-until : (job : PlanJob) (node from until : ℕ) → option_map (λ (time : Barred). time.until) (find (bars node from (window_end job from)) job.barred) ≡ Some until → IsBarredUntil job node from until
barred-until job node from until is =
    let any = found-some (bars node from (window_end job from)) job.barred until is in
    let crosses = what_bars node from (window_end job from) any.1 any.4.passes in
    record {
      later = omega (arith, crosses.ends, any.4.end_is);
      barred = λ second low high.
          let at : Crosses node second (window_end job second) any.1 = record {
            node_is = crosses.node_is;
            ends = omega (arith, high, any.4.end_is);
            begins = omega (arith, crosses.begins, window-order job from second low);
          } in
          list_any_at (bars node second (window_end job second)) job.barred any.0 any.1 any.2
          (ap (bars node second (window_end job second)) any.3 ∙ bars_at node second (window_end job second) any.1 at);
    }

-- what is given where nothing is, if the job may not have the node
pub unless-less : (barred also : Bool) (less more : ℕ) → (also ≡ true → barred ≡ true) → less ≤ more → cond barred 0 less ≤ cond also 0 more
unless-less true also less more implies order = omega arith
unless-less false true less more implies order = let wrong : false ≡ true = implies refl in absurd cc
unless-less false false less more implies order = order

pub given-clear : (barred : Bool) (given : ℕ) → 1 ≤ cond barred 0 given → barred ≡ false
given-clear true given some = absurd (omega (arith, some))
given-clear false given some = refl

-- one time more
pub times-more : {X : Type 0} (P Q : X → Type 0) (barred : List X) (i : ℕ) (time : X) → i < length barred → time ≡ get_or barred i time → ((one : X) → P one → Q one) → Q time → All P (take i barred) → All Q (take (i + 1) barred)
times-more P Q barred i time inside is weaker here all =
    All-more Q barred i time inside (All-weaker P Q weaker (take i barred) all) (subst Q is here)

-- two times are one where their nodes and their seconds are
times-same : (one other : Barred) → Decides (bytes_eq one.nodes other.nodes && (eqb one.from other.from && eqb one.until other.until)) (one ≡ other)
times-same one other = (
  λ is.
      let parts = and_parts (bytes_eq one.nodes other.nodes) (eqb one.from other.from && eqb one.until other.until) is in
      let seconds = and_parts (eqb one.from other.from) (eqb one.until other.until) parts.1 in
      let nodes : one.nodes ≡ other.nodes = (bytes_eq-Decides one.nodes other.nodes).0 parts.0 in
      let from : one.from ≡ other.from = eqb-true one.from other.from seconds.0 in
      let until : one.until ≡ other.until = eqb-true one.until other.until seconds.1 in
      rw (← nodes, ← from, ← until) refl,
  λ is. rw is (and_from (bytes_eq other.nodes other.nodes) (eqb other.from other.from && eqb other.until other.until) ((bytes_eq-Decides other.nodes other.nodes).1 refl)
      (and_from (eqb other.from other.from) (eqb other.until other.until) (eq-eqb other.from other.from refl) (eq-eqb other.until other.until refl))),
)

pub lists-same : (one other : List Barred) (same : Bool) → same ≡ pointwise (λ (a b : Barred). bytes_eq a.nodes b.nodes && (eqb a.from b.from && eqb a.until b.until)) one other → same ≡ true → one ≡ other
lists-same one other same is = (slice_eq-Decides times-same one other same is).0
