-- What a node gives stays while its window's bounds meet no change.
use Rattle.std.proofs.Common.{◌≡◌, ◌≢◌, true, false, ℕ, ◌+◌, ◌-◌, ◌*◌, ◌^◌, ◌≤◌, ◌<◌, min, List, [], ◌∷◌, ◌++◌, length, get_or, replicate, sum, All, slice_set, arith, refl, sym, ap, ◌∙◌, inl, inr, Some, None}
use Rattle.std.proofs.Common.{suc-mul}
use Rattle.std.specs.Prelude.{find, option_map}
use Rattle.std.proofs.lemmas.Bool.{cases_eq, cases_lt}
use Rattle.std.proofs.lemmas.List.{get_or-set_same, get_or-set_other, get_or-replicate, get_or_past, length-replicate, length-set, get_or_push, get_or_append_left}
use Rattle.std.proofs.lemmas.List.Elements.{All-head, All-tail}
use Rattle.std.proofs.lemmas.List.Sums.{sum_by-cons}
use Rattle.std.proofs.lemmas.Nat.{mul-le}
use Rattle.std.proofs.lemmas.Grind.{same_number_lists}
use Rattle.resource_profile.specs.declared.NodeRoom.{NodeRoom}
use Rattle.resource_profile.specs.declared.Hold.{Hold}
use Rattle.resource_profile.specs.declared.levels.Window.{Window}
use Rattle.resource_profile.specs.Free.{room_at, free_mem, least_over}
use Rattle.resource_profile.specs.Windows.{free_of, IsSteady}
use Rattle.plain_data.specs.Rows.{has_id}
use Rattle.backfill_planner.specs.declared.job.Barred.{Barred}
use Rattle.backfill_planner.specs.declared.job.PlanJob.{PlanJob}
use Rattle.backfill_planner.proofs.Barring.{clear-later, barred-until}
use Rattle.backfill_planner.specs.Giving.{window_end, bars, is_barred, tasks_given, capacities}
use Rattle.backfill_planner.specs.declared.sweep.Sweep.{Sweep}
use Rattle.backfill_planner.specs.Sweeps.{GivesUntil, HasLeasts, IsHalfway, IsSwept}
use Rattle.backfill_planner.proofs.Holding.{capacity-give}
use Rattle.backfill_planner.proofs.Dealing.{length-capacities}
use Rattle.plain_data.specs.declared.seconds.TheConstants.{FOREVER, LAST_START}

-- the window of the job that begins at a later second ends where the same is free
pub record IsInReach (job : PlanJob) (from until begins_before ends_up_to : ℕ) : Type 0 where
  pub later : from < until
  pub begins : until ≤ begins_before
  pub no_earlier : (second : ℕ) → from ≤ second → window_end job from ≤ window_end job second
  pub no_later : (second : ℕ) → second < until → window_end job second ≤ ends_up_to
  pub window : (second : ℕ) → second ≤ LAST_START → second < window_end job second

-- what is given where the job may have the node, as long as its window ends no later than the next time begins
pub gives-until : (rooms : List NodeRoom) (holds : List Hold) (job : PlanJob) (from node tasks until last : ℕ) (window : Window) → tasks ≡ tasks_given job (room_at rooms node) window.free.cpus window.free.mem → IsSteady (λ moment. free_of rooms holds node moment) from (window_end job from) window → IsInReach job from until window.begins_before last → last ≤ window.ends_up_to
    → is_barred job.barred node from (window_end job from) ≡ false → All (λ (time : Barred). has_id time.nodes node ≡ true → window_end job from ≤ time.from → last ≤ time.from) job.barred → GivesUntil rooms holds job from node tasks until
gives-until rooms holds job from node tasks until last window tasks_is steady reach within clear begins = record {
  later = reach.later;
  same = λ second low high latest.
      let early : second < window.begins_before = omega (arith, high, reach.begins) in
      let ends = reach.no_later second high in
      let cpus = steady.cpus second (window_end job second) low early (reach.no_earlier second low) (omega (arith, ends, within)) (reach.window second latest) in
      let mem = steady.mem second (window_end job second) low early (reach.no_earlier second low) (omega (arith, ends, within)) (reach.window second latest) in
      let least_mem = least_over (λ m. free_mem rooms holds node m) second (window_end job second) in
      let still = clear-later job.barred node from (window_end job from) second (window_end job second) last clear begins low ends in
      rw still (ap (λ n. tasks_given job (room_at rooms node) n least_mem) (sym cpus) ∙ ap (λ n. tasks_given job (room_at rooms node) window.free.cpus n) (sym mem) ∙ sym tasks_is);
}

-- nothing is given until the time is over that was found
pub gives-none : (rooms : List NodeRoom) (holds : List Hold) (job : PlanJob) (from node until : ℕ) → option_map (λ (time : Barred). time.until) (find (bars node from (window_end job from)) job.barred) ≡ Some until → GivesUntil rooms holds job from node 0 until
gives-none rooms holds job from node until is =
    let barred = barred-until job node from until is in
    record { later = barred.later; same = λ second low high latest. rw (barred.barred second low high) refl }

pub in-reach-some : (job : PlanJob) (from seconds begins_before ends_up_to : ℕ) → job.seconds ≡ Some seconds → 1 ≤ seconds → from < begins_before → from + seconds ≤ ends_up_to → IsInReach job from (min begins_before (ends_up_to - (seconds - 1))) begins_before ends_up_to
in-reach-some job from seconds begins_before ends_up_to is some begins ends =
    let end_of : (second : ℕ) → window_end job second ≡ second + seconds = λ second. rw is refl in
    record {
      later = omega (arith, begins, ends, some);
      begins = omega arith;
      no_earlier = λ second low. omega (arith, end_of from, end_of second, low);
      no_later = λ second high. omega (arith, end_of second, high, some, ends);
      window = λ second last. omega (arith, end_of second, some);
    }

pub in-reach-none : (job : PlanJob) (from begins_before ends_up_to : ℕ) → job.seconds ≡ None → from < begins_before → FOREVER ≤ ends_up_to → IsInReach job from begins_before begins_before ends_up_to
in-reach-none job from begins_before ends_up_to is begins ends =
    let end_of : (second : ℕ) → window_end job second ≡ FOREVER = λ second. rw is refl in
    record {
      later = begins;
      begins = omega arith;
      no_earlier = λ second low. omega (arith, end_of from, end_of second);
      no_later = λ second high. omega (arith, end_of second, ends);
      window = λ second last. omega (arith, end_of second, last);
    }

pub gives-later : (rooms : List NodeRoom) (holds : List Hold) (job : PlanJob) (from later node tasks until : ℕ) → from ≤ later → later < until → GivesUntil rooms holds job from node tasks until → GivesUntil rooms holds job later node tasks until
gives-later rooms holds job from later node tasks until order before gives = record {
  later = before;
  same = λ second low high last. gives.same second (omega (arith, order, low)) high last;
}

-- what is kept is what each node can give
pub swept-capacities : (rooms : List NodeRoom) (holds : List Hold) (job : PlanJob) (second : ℕ) (caps untils : List ℕ) → length caps ≡ length job.nodes → ((i : ℕ) → i < length job.nodes → GivesUntil rooms holds job second (get_or job.nodes i 0) (get_or caps i 0) (get_or untils i 0)) → second ≤ LAST_START → caps ≡ capacities rooms holds job second
swept-capacities rooms holds job second caps untils long each last =
    same_number_lists caps (capacities rooms holds job second) (long ∙ sym (length-capacities rooms holds job second)) (λ k inside.
    let here : k < length job.nodes = omega (arith, inside, long) in
    let gives = each k here in
    sym (capacity-give rooms holds job second k here ∙ gives.same second (omega arith) gives.later last))

-- and before one of them may give otherwise it is what they can give
pub swept-at : (rooms : List NodeRoom) (holds : List Hold) (job : PlanJob) (sweep : Sweep) (second : ℕ) → IsSwept rooms holds job sweep → sweep.second ≤ second → second < sweep.least → second ≤ LAST_START → sweep.caps.items ≡ capacities rooms holds job second
swept-at rooms holds job sweep second swept order before last =
    swept-capacities rooms holds job second sweep.caps.items sweep.untils.items swept.long
    (λ i inside. gives-later rooms holds job sweep.second second _ _ _ order (omega (arith, before, swept.least i inside)) (swept.each i inside)) last

-- so it may go on to such a second as it is
pub swept-later : (rooms : List NodeRoom) (holds : List Hold) (job : PlanJob) (sweep : Sweep) (second : ℕ) → IsSwept rooms holds job sweep → sweep.second ≤ second → second < sweep.least → IsSwept rooms holds job (record sweep { second = second })
swept-later rooms holds job sweep second swept order before = record {
  long = swept.long;
  until_long = swept.until_long;
  each = λ i inside. gives-later rooms holds job sweep.second second _ _ _ order (omega (arith, before, swept.least i inside)) (swept.each i inside);
  small = swept.small;
  few = swept.few;
  total = swept.total;
  later = before;
  least = swept.least;
  rows = swept.rows;
  few_rows = swept.few_rows;
  leasts = swept.leasts;
}

-- or set out for one, go past a row for which nothing has changed, and arrive
pub swept-halfway : (rooms : List NodeRoom) (holds : List Hold) (job : PlanJob) (sweep : Sweep) (second : ℕ) → IsSwept rooms holds job sweep → sweep.second ≤ second → IsHalfway rooms holds job sweep second 0
swept-halfway rooms holds job sweep second swept order = record {
  long = swept.long;
  until_long = swept.until_long;
  order = order;
  done = λ i below inside. absurd (omega (arith, below));
  rest = λ i low inside. swept.each i inside;
  small = swept.small;
  few = swept.few;
  total = swept.total;
  rows = swept.rows;
  few_rows = swept.few_rows;
  leasts = swept.leasts;
}

pub halfway-row : (rooms : List NodeRoom) (holds : List Hold) (job : PlanJob) (sweep : Sweep) (second row : ℕ) → IsHalfway rooms holds job sweep second (row * 8) → second < get_or sweep.leasts.items row 0 → IsHalfway rooms holds job sweep second (row * 8 + 8)
halfway-row rooms holds job sweep second row half fresh = record {
  long = half.long;
  until_long = half.until_long;
  order = half.order;
  done = λ i below inside. elim (cases_lt i (row * 8)) [
    | inl passed ↦ half.done i passed inside
    | inr here ↦
        let least = half.leasts row i (omega (arith, here)) below (omega (arith, inside, half.until_long)) in
        gives-later rooms holds job sweep.second second _ _ _ half.order (omega (arith, fresh, least)) (half.rest i (omega (arith, here)) inside)
  ];
  rest = λ i low inside. half.rest i (omega (arith, low)) inside;
  small = half.small;
  few = half.few;
  total = half.total;
  rows = half.rows;
  few_rows = half.few_rows;
  leasts = half.leasts;
}

pub halfway-swept : (rooms : List NodeRoom) (holds : List Hold) (job : PlanJob) (sweep : Sweep) (second place least : ℕ) → IsHalfway rooms holds job sweep second place → length job.nodes ≤ place → second < least → ((i : ℕ) → i < length job.nodes → least ≤ get_or sweep.untils.items i 0) → IsSwept rooms holds job (record sweep { least = least; second = second })
halfway-swept rooms holds job sweep second place least half all later each = record {
  long = half.long;
  until_long = half.until_long;
  each = λ i inside. half.done i (omega (arith, inside, all)) inside;
  small = half.small;
  few = half.few;
  total = half.total;
  later = later;
  least = each;
  rows = half.rows;
  few_rows = half.few_rows;
  leasts = half.leasts;
}

-- the seconds of the rows once that of one is another, once a node holds longer, and where all are the least
pub leasts-set : (leasts untils : List ℕ) (row least : ℕ) → row < length leasts → HasLeasts leasts untils → ((i : ℕ) → row * 8 ≤ i → i < row * 8 + 8 → i < length untils → least ≤ get_or untils i 0) → HasLeasts (slice_set leasts row least) untils
leasts-set leasts untils row least there each here = λ other i low below inside. elim (cases_eq other row) [
  | inl at ↦
      let e : other ≡ row = at in
      rw (e, get_or-set_same leasts row least 0 there) (here i (omega (arith, low, e)) (omega (arith, below, e)) inside)
  | inr apart ↦ rw (get_or-set_other leasts row other least 0 apart) (each other i low below inside)
]

pub leasts-later : (leasts untils : List ℕ) (i until : ℕ) → i < length untils → get_or untils i 0 ≤ until → HasLeasts leasts untils → HasLeasts leasts (slice_set untils i until)
leasts-later leasts untils i until there later each = λ row k low below inside. elim (cases_eq k i) [
  | inl at ↦
      let e : k ≡ i = at in
      rw (e, get_or-set_same untils i until 0 there) (omega (arith, later, each row i (omega (arith, low, e)) (omega (arith, below, e)) there))
  | inr apart ↦ rw (get_or-set_other untils i k until 0 apart) (each row k low below (omega (arith, inside, length-set untils i until)))
]

pub leasts-alike : (count least : ℕ) (untils : List ℕ) → ((i : ℕ) → i < length untils → least ≤ get_or untils i 0) → HasLeasts (replicate count least) untils
leasts-alike count least untils each = λ row i low below inside. elim (cases_lt row count) [
  | inl there ↦ rw (get_or-replicate count row least 0 there) (each i inside)
  | inr past ↦ rw (get_or_past (replicate count least) row 0 (omega (arith, past, length-replicate count least))) (omega arith)
]

-- the least of what the nodes so far hold until
pub least-read : (untils : List ℕ) (least i : ℕ) → ((k : ℕ) → k < i → least ≤ get_or untils k 0) → (k : ℕ) → k < i + 1 → min least (get_or untils i 0) ≤ get_or untils k 0
least-read untils least i each k below = elim (cases_eq k i) [
  | inl at ↦ let e : k ≡ i = at in rw e (omega arith)
  | inr apart ↦ omega (arith, each k (omega arith))
]

pub least-set : (untils : List ℕ) (least until i : ℕ) → i < length untils → ((k : ℕ) → k < i → least ≤ get_or untils k 0) → (k : ℕ) → k < i + 1 → min least until ≤ get_or (slice_set untils i until) k 0
least-set untils least until i inside each k below = elim (cases_eq k i) [
  | inl at ↦ let e : k ≡ i = at in rw (e, get_or-set_same untils i until 0 inside) (omega arith)
  | inr apart ↦ rw (get_or-set_other untils i k until 0 apart) (omega (arith, each k (omega arith)))
]

-- one node is counted anew
pub gives-set : (rooms : List NodeRoom) (holds : List Hold) (job : PlanJob) (second node i tasks until : ℕ) (caps untils : List ℕ) → i < length caps → i < length untils → GivesUntil rooms holds job second node tasks until → GivesUntil rooms holds job second node (get_or (slice_set caps i tasks) i 0) (get_or (slice_set untils i until) i 0)
gives-set rooms holds job second node i tasks until caps untils caps_in untils_in gives =
    rw (get_or-set_same caps i tasks 0 caps_in, get_or-set_same untils i until 0 untils_in) gives

pub gives-other : (rooms : List NodeRoom) (holds : List Hold) (job : PlanJob) (second node i k tasks until : ℕ) (caps untils : List ℕ) → k ≢ i → GivesUntil rooms holds job second node (get_or caps k 0) (get_or untils k 0) → GivesUntil rooms holds job second node (get_or (slice_set caps i tasks) k 0) (get_or (slice_set untils i until) k 0)
gives-other rooms holds job second node i k tasks until caps untils apart gives =
    rw (get_or-set_other caps i k tasks 0 apart, get_or-set_other untils i k until 0 apart) gives

pub small-set : (caps : List ℕ) (i tasks each bound : ℕ) → All (λ n. n * each < bound) caps → tasks * each < bound → All (λ n. n * each < bound) (slice_set caps i tasks)
small-set caps i tasks each bound small here k d inside =
    let k_in : k < length caps = omega (arith, inside, length-set caps i tasks) in
    elim (cases_eq k i) [
      | inl at ↦
          let e : k ≡ i = at in
          rw (e, get_or-set_same caps i tasks d (omega (arith, k_in, e))) here
      | inr apart ↦ rw (get_or-set_other caps i k tasks d apart) (small k d k_in)
    ]

-- so many numbers below a bound
pub sum-bound : (xs : List ℕ) (bound : ℕ) → All (λ x. x ≤ bound) xs → sum xs ≤ length xs * bound
sum-bound [] bound each = omega arith
sum-bound (x ∷ xs) bound each =
    let rest = sum-bound xs bound (All-tail (λ n. n ≤ bound) x xs each) in
    let here = All-head (λ n. n ≤ bound) x xs each in
    let whole : sum (x ∷ xs) ≡ x + sum xs = sum_by-cons (λ n. n) x xs in
    omega (arith, rest, here, whole, suc-mul (length xs) bound)

-- the steps of the first walk
pub gives-push : (rooms : List NodeRoom) (holds : List Hold) (job : PlanJob) (second count tasks until node : ℕ) (nodes caps untils : List ℕ) → length caps ≡ count → length untils ≡ count → get_or nodes count 0 ≡ node
    → ((i : ℕ) → i < count → GivesUntil rooms holds job second (get_or nodes i 0) (get_or caps i 0) (get_or untils i 0)) → GivesUntil rooms holds job second node tasks until
    → (i : ℕ) → i < count + 1 → GivesUntil rooms holds job second (get_or nodes i 0) (get_or (caps ++ tasks ∷ []) i 0) (get_or (untils ++ until ∷ []) i 0)
gives-push rooms holds job second count tasks until node nodes caps untils long until_long there each here i below = elim (cases_eq i count) [
  | inl at ↦
      let e : i ≡ count = at in
      let last : get_or (caps ++ tasks ∷ []) count 0 ≡ tasks = get_or_push caps tasks 0 count long in
      let until_last : get_or (untils ++ until ∷ []) count 0 ≡ until = get_or_push untils until 0 count until_long in
      rw (e, there, last, until_last) here
  | inr apart ↦
      let low : i < count = omega arith in
      rw (get_or_append_left caps (tasks ∷ []) 0 i (omega (arith, low, long)), get_or_append_left untils (until ∷ []) 0 i (omega (arith, low, until_long))) (each i low)
]

pub least-push : (untils : List ℕ) (least until count : ℕ) → length untils ≡ count → ((i : ℕ) → i < count → least ≤ get_or untils i 0) → (i : ℕ) → i < count + 1 → min least until ≤ get_or (untils ++ until ∷ []) i 0
least-push untils least until count long each i below = elim (cases_eq i count) [
  | inl at ↦
      let e : i ≡ count = at in
      rw (e, get_or_push untils until 0 count long) (omega arith)
  | inr apart ↦
      let low : i < count = omega arith in
      rw (get_or_append_left untils (until ∷ []) 0 i (omega (arith, low, long))) (omega (arith, each i low))
]

pub end-some : (job : PlanJob) (second seconds : ℕ) → job.seconds ≡ Some seconds → window_end job second ≡ second + seconds
end-some job second seconds is = rw is refl

pub end-none : (job : PlanJob) (second : ℕ) → job.seconds ≡ None → window_end job second ≡ FOREVER
end-none job second is = rw is refl

-- what few numbers of a word's half give together leaves room for one more
pub total-room : (caps : List ℕ) (total each : ℕ) → length caps < 2 ^ 32 → All (λ n. n * each < 2 ^ 32) caps → 1 ≤ each → total ≡ sum caps → total + 2 ^ 32 ≤ 2 ^ 64
total-room caps total each few small some total_is =
    let bound = sum-bound caps (2 ^ 32 - 1) (λ k d inside. omega (arith, small k d inside, mul-le (get_or caps k d) 1 (get_or caps k d) each (omega arith) some)) in
    let most = mul-le (length caps) (2 ^ 32 - 1) (2 ^ 32 - 1) (2 ^ 32 - 1) (omega (arith, few)) (omega arith) in
    omega (arith, bound, most, total_is)
