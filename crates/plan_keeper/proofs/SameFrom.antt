-- A job that is the same from now on is placed as it was.
use Rattle.std.proofs.Common.{◌≡◌, ℕ, ◌+◌, ◌-◌, ◌≤◌, ◌<◌, zero, suc, Bool, true, false, ◌&&◌, ◌||◌, cond, eqb, ltb, List, [], ◌∷◌, map, All, arith, refl, ap, subst, sym, ◌∙◌, inl, inr, Option, Some, None}
use Rattle.std.specs.Prelude.{filter, find, is_some, option_map, option_and_then}
use Rattle.std.specs.List.{list_any}
use Rattle.std.proofs.lemmas.Bool.{cases_Bool, and_parts, and_from, eqb-true, ltb-true, lt-ltb, false_from_ne_true}
use Rattle.std.proofs.lemmas.List.Elements.{All-head, All-tail, All-weaker}
use Rattle.plain_data.specs.Rows.{has_id}
use Rattle.resource_profile.specs.declared.NodeRoom.{NodeRoom}
use Rattle.resource_profile.specs.declared.Hold.{Hold}
use Rattle.resource_profile.specs.Free.{room_at, free_cpus, free_mem, least_over}
use Rattle.resource_profile.specs.Sets.{dealt}
use Rattle.resource_profile.specs.Choosing.{chosen, numbers_from}
use Rattle.backfill_planner.specs.declared.Placed.{Placed}
use Rattle.backfill_planner.specs.declared.job.Barred.{Barred}
use Rattle.backfill_planner.specs.declared.job.PlanJob.{PlanJob}
use Rattle.backfill_planner.specs.Giving.{window_end, bars, is_barred, tasks_given, give, capacities}
use Rattle.backfill_planner.specs.Lesser.{NoneBefore}
use Rattle.backfill_planner.specs.Plans.{share_of, placement_at, first_second, placed_of, holds_of}
use Rattle.backfill_planner.specs.Staying.{EndsInTime}
use Rattle.plain_data.specs.declared.seconds.TheConstants.{FOREVER}
use Rattle.plan_keeper.specs.Steady.{may_have_node, is_ahead, but_for_times, IsSameFrom}
use Rattle.plan_keeper.specs.Marks.{on}
use Rattle.plan_keeper.proofs.Times.{own-nodes}

-- the job with other times
abbrev timed : PlanJob → List Barred → PlanJob
timed job times = record job { barred = times }

is-timed : (one other : PlanJob) → but_for_times one ≡ but_for_times other → one ≡ timed other one.barred
is-timed one other same = ap (λ (job : PlanJob). timed job one.barred) same

-- those that count tell whether any passes a test that no other one does
any-kept : (test counts : Barred → Bool) (times : List Barred) → ((time : Barred) → test time ≡ true → counts time ≡ true) → list_any test (filter counts times) ≡ list_any test times
any-kept test counts [] implies = refl
any-kept test counts (time ∷ times) implies = elim (cases_Bool (counts time)) [
  | inl is ↦ rw is (ap (λ rest. test time || rest) (any-kept test counts times implies))
  | inr differs ↦
      let fails : test time ≡ false = false_from_ne_true (test time) (λ passes. let wrong = sym differs ∙ implies time passes in absurd cc) in
      rw (differs, fails) (any-kept test counts times implies)
]

any-own : (test : ℕ → Bool) (node : ℕ) (nodes : List ℕ) → list_any (λ other. eqb node other) nodes ≡ true → test node ≡ true → list_any test nodes ≡ true
any-own test node [] has passes = absurd cc
any-own test node (other ∷ nodes) has passes = elim (cases_Bool (eqb node other)) [
  | inl is ↦ let here : test other ≡ true = rw (eqb-true node other is) at passes in rw here refl
  | inr differs ↦
      let rest : list_any test nodes ≡ true = any-own test node nodes (rw differs at has) passes in
      elim (cases_Bool (test other)) [
        | inl here ↦ rw here refl
        | inr not_here ↦ rw (not_here, rest) refl
      ]
]

bars-ahead : (now start end node : ℕ) (nodes : List ℕ) (time : Barred) → now ≤ start → list_any (λ other. eqb node other) nodes ≡ true → bars node start end time ≡ true → is_ahead now nodes time ≡ true
bars-ahead now start end node nodes time later own crosses =
    let parts = and_parts (has_id time.nodes node) (ltb start time.until && ltb time.from end) crosses in
    let seconds = and_parts (ltb start time.until) (ltb time.from end) parts.1 in
    let below : start < time.until = ltb-true start time.until seconds.0 in
    and_from (ltb now time.until) (list_any (has_id time.nodes) nodes) (lt-ltb now time.until (omega (arith, later, below))) (any-own (has_id time.nodes) node nodes own parts.0)

barred-same : (now start end node : ℕ) (nodes : List ℕ) (one other : List Barred) → now ≤ start → list_any (λ other. eqb node other) nodes ≡ true → filter (is_ahead now nodes) one ≡ filter (is_ahead now nodes) other → is_barred one node start end ≡ is_barred other node start end
barred-same now start end node nodes one other later own same =
    let implies : (time : Barred) → bars node start end time ≡ true → is_ahead now nodes time ≡ true = λ time crosses. bars-ahead now start end node nodes time later own crosses in
    sym (any-kept (bars node start end) (is_ahead now nodes) one implies)
    ∙ ap (λ times. list_any (bars node start end) times) same
    ∙ any-kept (bars node start end) (is_ahead now nodes) other implies

give-same : (rooms : List NodeRoom) (holds : List Hold) (job : PlanJob) (times : List Barred) (now start node : ℕ) → now ≤ start → may_have_node node job ≡ true → filter (is_ahead now job.nodes) times ≡ filter (is_ahead now job.nodes) job.barred → give rooms holds (timed job times) start node ≡ give rooms holds job start node
give-same rooms holds job times now start node later own same =
    ap (λ barred. cond barred 0 (tasks_given job (room_at rooms node)
    (least_over (λ moment. free_cpus rooms holds node moment) start (window_end job start))
    (least_over (λ moment. free_mem rooms holds node moment) start (window_end job start))))
    (barred-same now start (window_end job start) node job.nodes times job.barred later own same)

map-all : (f g : ℕ → ℕ) (xs : List ℕ) → All (λ x. f x ≡ g x) xs → map f xs ≡ map g xs
map-all f g [] same = refl
map-all f g (x ∷ xs) same =
    ap (λ y. y ∷ map f xs) (All-head (λ x. f x ≡ g x) x xs same)
    ∙ ap (λ ys. g x ∷ ys) (map-all f g xs (All-tail (λ x. f x ≡ g x) x xs same))

capacities-same : (rooms : List NodeRoom) (holds : List Hold) (job : PlanJob) (times : List Barred) (now start : ℕ) → now ≤ start → filter (is_ahead now job.nodes) times ≡ filter (is_ahead now job.nodes) job.barred → capacities rooms holds (timed job times) start ≡ capacities rooms holds job start
unfolding capacities
capacities-same rooms holds job times now start later same =
    map-all (λ node. give rooms holds (timed job times) start node) (λ node. give rooms holds job start node) job.nodes
    (All-weaker (λ node. may_have_node node job ≡ true) (λ node. give rooms holds (timed job times) start node ≡ give rooms holds job start node)
    (λ node own. give-same rooms holds job times now start node later own same) job.nodes (own-nodes job))

placement-same : (rooms : List NodeRoom) (holds : List Hold) (job : PlanJob) (times : List Barred) (now start : ℕ) → now ≤ start → filter (is_ahead now job.nodes) times ≡ filter (is_ahead now job.nodes) job.barred → placement_at rooms holds (timed job times) start ≡ placement_at rooms holds job start
unfolding placement_at
placement-same rooms holds job times now start later same =
    ap (λ caps. option_map (λ set. placed caps set) (chosen caps job.need)) (capacities-same rooms holds job times now start later same)
  where
    placed : List ℕ → List ℕ → Placed
    placed caps set = record { id = job.id; start = start; parts = map (λ part. share_of rooms job part) (dealt caps job.need.tasks set) }

found-same : (one other : ℕ → Option Placed) (least more : ℕ) → ((second : ℕ) → least ≤ second → one second ≡ other second) → option_and_then one (find (λ second. is_some (one second)) (numbers_from least more)) ≡ option_and_then other (find (λ second. is_some (other second)) (numbers_from least more))
unfolding numbers_from
found-same one other least zero same = refl
found-same one other least (suc more) same =
    let here : one least ≡ other least = same least (omega arith) in
    let rest = found-same one other (least + 1) more (λ second low. same second (omega (arith, low))) in
    elim (cases_Bool (is_some (other least))) [
      | inl some ↦ let first : is_some (one least) ≡ true = ap (λ placed. is_some placed) here ∙ some in rw (first, some) here
      | inr none ↦ let first : is_some (one least) ≡ false = ap (λ placed. is_some placed) here ∙ none in rw (first, none) rest
    ]

placed-same : (rooms : List NodeRoom) (holds : List Hold) (job : PlanJob) (times : List Barred) (now lo hi : ℕ) → now ≤ lo → filter (is_ahead now job.nodes) times ≡ filter (is_ahead now job.nodes) job.barred → placed_of rooms holds (timed job times) lo hi ≡ placed_of rooms holds job lo hi
unfolding placed_of first_second
placed-same rooms holds job times now lo hi later same =
    found-same (λ second. placement_at rooms holds (timed job times) second) (λ second. placement_at rooms holds job second) lo (hi + 1 - lo)
    (λ second low. placement-same rooms holds job times now second (omega (arith, later, low)) same)

-- its nodes, and how often one is among them
pub same-nodes : (now : ℕ) (was job : PlanJob) → IsSameFrom now was job → was.nodes ≡ job.nodes
same-nodes now was job same = ap (λ (one : PlanJob). one.nodes) same.asks

pub same-id : (now : ℕ) (was job : PlanJob) → IsSameFrom now was job → was.id ≡ job.id
same-id now was job same = ap (λ (one : PlanJob). one.id) same.asks

pub same-on : (now : ℕ) (was job : PlanJob) → IsSameFrom now was job → (node : ℕ) → on node was ≡ on node job
same-on now was job same node = ap (λ (one : PlanJob). on node one) same.asks

pub same-in_time : (now : ℕ) (was job : PlanJob) → IsSameFrom now was job → EndsInTime job → EndsInTime was
same-in_time now was job same in_time start low =
    let ends : window_end was start ≡ window_end job start = ap (λ (one : PlanJob). window_end one start) same.asks in
    subst (λ end. end ≤ FOREVER) (sym ends) (in_time start low)

pub same-holds : (now : ℕ) (was job : PlanJob) → IsSameFrom now was job → (placed : Option Placed) → holds_of was placed ≡ holds_of job placed
same-holds now was job same None = refl
same-holds now was job same (Some placed) = ap (λ (one : PlanJob). holds_of one (Some placed)) same.asks

own-times : (now : ℕ) (was job : PlanJob) → IsSameFrom now was job → filter (is_ahead now job.nodes) was.barred ≡ filter (is_ahead now job.nodes) job.barred
own-times now was job same = ap (λ nodes. filter (is_ahead now nodes) was.barred) (sym (same-nodes now was job same)) ∙ same.times

pub same-placed : (rooms : List NodeRoom) (holds : List Hold) (was job : PlanJob) (now lo hi : ℕ) → IsSameFrom now was job → now ≤ lo → placed_of rooms holds was lo hi ≡ placed_of rooms holds job lo hi
same-placed rooms holds was job now lo hi same later =
    ap (λ (one : PlanJob). placed_of rooms holds one lo hi) (is-timed was job same.asks)
    ∙ placed-same rooms holds job was.barred now lo hi later (own-times now was job same)

pub same-none : (rooms : List NodeRoom) (holds : List Hold) (was job : PlanJob) (now bound : ℕ) → IsSameFrom now was job → NoneBefore rooms holds was now bound → NoneBefore rooms holds job now bound
same-none rooms holds was job now bound same none second from below low =
    sym (placement-same rooms holds job was.barred now second from (own-times now was job same))
    ∙ ap (λ (one : PlanJob). placement_at rooms holds one second) (sym (is-timed was job same.asks))
    ∙ none second from below low
