-- Between two ends of holds, and of the times at which the job may not have nodes, no set comes to fit.
use Rattle.std.proofs.Common.{◌≡◌, ◌≢◌, ℕ, ◌+◌, ◌-◌, ◌*◌, ◌/◌, ◌≤◌, ◌<◌, min, zero, suc, true, ◌&&◌, ◌||◌, not, cond, eqb, leb, List, [], ◌∷◌, map, All, sum_by, arith, refl, inl, inr, get_or, Some, None, Option}
use Rattle.std.specs.Prelude.{option_map, unwrap_or}
use Rattle.std.proofs.Math.Nat.{div-zero, div-mul-le_self}
use Rattle.std.proofs.lemmas.Nat.{le-div}
use Rattle.std.proofs.lemmas.Bool.{cases_Bool, cases_lt, and_parts, and_from, eqb-true, eq-eqb, leb-true, le-leb}
use Rattle.std.proofs.lemmas.List.Sums.{sum_by-cons, sum_by-le-sum_by}
use Rattle.std.proofs.lemmas.List.Elements.{All-head, All-tail, All-weaker}
use Rattle.resource_profile.specs.declared.NodeRoom.{NodeRoom}
use Rattle.resource_profile.specs.declared.Hold.{Hold}
use Rattle.resource_profile.specs.Free.{room_at, covers, free_cpus, free_mem, least_over}
use Rattle.backfill_planner.proofs.Windows.{over_lower, over_reached}
use Rattle.backfill_planner.proofs.Windows.{what_covers, covers_at}
use Rattle.backfill_planner.proofs.Barring.{window-order, barred-next, unless-less}
use Rattle.resource_profile.specs.declared.picking.Need.{Need}
use Rattle.resource_profile.specs.Sets.{capacity, Fits}
use Rattle.resource_profile.specs.Choosing.{chosen}
use Rattle.backfill_planner.specs.LowerLaws.{LowerLaws}
use Rattle.backfill_planner.specs.declared.Placed.{Placed}
use Rattle.plain_data.specs.declared.mem_ask.MemAsk.{MemAsk}
use Rattle.plain_data.specs.declared.mem_ask.MemAsk.TheVariants.{All as AllMem, PerNode, PerCpu}
use Rattle.backfill_planner.specs.declared.job.Barred.{Barred}
use Rattle.backfill_planner.specs.declared.job.PlanJob.{PlanJob}
use Rattle.backfill_planner.specs.Sweeps.{NoneEnds}
use Rattle.backfill_planner.specs.Giving.{window_end, is_barred, tasks_by_mem, may_have, tasks_given, give, capacities}
use Rattle.backfill_planner.specs.Plans.{shares_of, placement_at}
use Rattle.plain_data.specs.declared.seconds.TheConstants.{FOREVER}

pub quotient-more : (less more part : ℕ) → less ≤ more → less / part ≤ more / part
quotient-more less more part grows = elim (cases_lt 0 part) [
  | inl some ↦ le-div (less / part) more part some (omega (arith, div-mul-le_self less part, grows))
  | inr none ↦
      let nothing : part ≡ 0 = omega (arith, none) in
      rw nothing (omega (arith, div-zero less, div-zero more))
]

-- where more is free a node gives no less
by_mem-more : (ask : MemAsk) (cpus_per_task : ℕ) (room : NodeRoom) (mem more most more_most : ℕ) → mem ≤ more → more ≤ room.mem → most ≤ more_most → tasks_by_mem ask cpus_per_task room mem most ≤ tasks_by_mem ask cpus_per_task room more more_most
by_mem-more AllMem cpus_per_task room mem more most more_most grows within higher = elim (cases_Bool (eqb mem room.mem)) [
  | inl whole ↦
      let all : eqb more room.mem ≡ true = eq-eqb more room.mem (omega (arith, eqb-true mem room.mem whole, grows, within)) in
      rw (whole, all) higher
  | inr less ↦ rw less (omega arith)
]
by_mem-more (PerNode asked) cpus_per_task room mem more most more_most grows within higher = elim (cases_Bool (leb asked mem)) [
  | inl enough ↦
      let still : leb asked more ≡ true = le-leb asked more (omega (arith, leb-true asked mem enough, grows)) in
      rw (enough, still) higher
  | inr less ↦ rw less (omega arith)
]
by_mem-more (PerCpu asked) cpus_per_task room mem more most more_most grows within higher =
    omega (arith, higher, quotient-more mem more (asked * cpus_per_task) grows)

pub tasks-more : (job : PlanJob) (room : NodeRoom) (cpus mem more_cpus more_mem : ℕ) → cpus ≤ more_cpus → more_cpus ≤ room.cpus → mem ≤ more_mem → more_mem ≤ room.mem → tasks_given job room cpus mem ≤ tasks_given job room more_cpus more_mem
tasks-more job room cpus mem more_cpus more_mem cpus_grow cpus_within mem_grows mem_within = elim (cases_Bool (may_have job room cpus mem)) [
  | inr may_not ↦ rw may_not (omega arith)
  | inl may ↦
      let parts = and_parts room.usable (not job.exclusive || (eqb cpus room.cpus && eqb mem room.mem)) may in
      let still : may_have job room more_cpus more_mem ≡ true = and_from room.usable (not job.exclusive || (eqb more_cpus room.cpus && eqb more_mem room.mem)) parts.0 (elim (cases_Bool job.exclusive) [
        | inr shares ↦ rw shares refl
        | inl alone ↦
            let both : (eqb cpus room.cpus && eqb mem room.mem) ≡ true = rw alone at parts.1 in
            let whole = and_parts (eqb cpus room.cpus) (eqb mem room.mem) both in
            rw alone (and_from (eqb more_cpus room.cpus) (eqb more_mem room.mem)
            (eq-eqb more_cpus room.cpus (omega (arith, eqb-true cpus room.cpus whole.0, cpus_grow, cpus_within)))
            (eq-eqb more_mem room.mem (omega (arith, eqb-true mem room.mem whole.1, mem_grows, mem_within))))
      ]) in
      rw (may, still) (by_mem-more job.mem_ask job.cpus_per_task room mem more_mem (min job.per_node (cpus / job.cpus_per_task)) (min job.per_node (more_cpus / job.cpus_per_task)) mem_grows mem_within
      (omega (arith, quotient-more cpus more_cpus job.cpus_per_task cpus_grow)))
]

-- where no hold ends at the next second, as much is held then
held-kept : (amount : Hold → ℕ) (node moment : ℕ) (holds : List Hold) → All (λ (hold : Hold). hold.until ≢ moment + 1) holds → sum_by (λ (hold : Hold). cond (covers node moment hold) (amount hold) 0) holds ≤ sum_by (λ (hold : Hold). cond (covers node (moment + 1) hold) (amount hold) 0) holds
held-kept amount node moment [] quiet = omega arith
held-kept amount node moment (hold ∷ holds) quiet =
    let rest = held-kept amount node moment holds (All-tail (λ (h : Hold). h.until ≢ moment + 1) hold holds quiet) in
    let stays : hold.until ≢ moment + 1 = All-head (λ (h : Hold). h.until ≢ moment + 1) hold holds quiet in
    let before = sum_by-cons (λ (h : Hold). cond (covers node moment h) (amount h) 0) hold holds in
    let after = sum_by-cons (λ (h : Hold). cond (covers node (moment + 1) h) (amount h) 0) hold holds in
    elim (cases_Bool (covers node moment hold)) [
      | inl covered ↦
          let facts = what_covers node moment hold covered in
          let still : covers node (moment + 1) hold ≡ true = covers_at node (moment + 1) hold facts.0 (omega (arith, facts.1)) (omega (arith, facts.2, stays)) in
          rw (before, after, covered, still) (omega (arith, rest))
      | inr not_covered ↦ rw (before, after, not_covered) (omega (arith, rest))
    ]

-- so the least that is free over the window that begins a second later is no more
least-more : (free : ℕ → ℕ) (moment end later_end : ℕ) → moment < end → end ≤ later_end → moment + 1 < later_end → free (moment + 1) ≤ free moment → least_over free (moment + 1) later_end ≤ least_over free moment end
least-more free moment end later_end window later next no_rise =
    let at = over_reached free moment end window in
    elim (cases_lt moment at.0) [
      | inl after ↦ omega (arith, at.3, over_lower free (moment + 1) later_end at.0 (omega (arith, after)) (omega (arith, at.2, later)))
      | inr first ↦
          let same : at.0 ≡ moment = omega (arith, first, at.1) in
          let reached : free moment ≡ least_over free moment end = rw same at at.3 in
          omega (arith, reached, no_rise, over_lower free (moment + 1) later_end (moment + 1) (omega arith) next)
    ]

-- the windows of a job
pub window-any : (job : PlanJob) (start moment : ℕ) → start < window_end job start → moment < FOREVER → moment < window_end job moment
window-any job start moment window early = by job.seconds window
  where
    by : (seconds : Option ℕ) → start < unwrap_or (option_map (λ s. start + s) seconds) FOREVER → moment < unwrap_or (option_map (λ s. moment + s) seconds) FOREVER
    by None window = early
    by (Some seconds) window = omega (arith, window)

least-within : (free : ℕ → ℕ) (room start end : ℕ) → start < end → ((moment : ℕ) → free moment ≤ room) → least_over free start end ≤ room
least-within free room start end window within = omega (arith, over_lower free start end start (omega arith) window, within start)

-- no hold, and no time at which the job may not have nodes, ends at the second
abbrev AllLast : List Hold → List Barred → ℕ → Type 0
AllLast holds barred moment = All (λ (hold : Hold). hold.until ≢ moment) holds × All (λ (time : Barred). time.until ≢ moment) barred

give-more : (rooms : List NodeRoom) (holds : List Hold) (job : PlanJob) (moment node : ℕ) → AllLast holds job.barred (moment + 1) → moment < window_end job moment → moment + 1 < window_end job (moment + 1) → give rooms holds job (moment + 1) node ≤ give rooms holds job moment node
give-more rooms holds job moment node quiet window next =
    unless-less (is_barred job.barred node (moment + 1) (window_end job (moment + 1))) (is_barred job.barred node moment (window_end job moment)) _ _
    (barred-next job node moment quiet.1)
    (tasks-more job (room_at rooms node)
    (least_over (λ m. free_cpus rooms holds node m) (moment + 1) (window_end job (moment + 1)))
    (least_over (λ m. free_mem rooms holds node m) (moment + 1) (window_end job (moment + 1)))
    (least_over (λ m. free_cpus rooms holds node m) moment (window_end job moment))
    (least_over (λ m. free_mem rooms holds node m) moment (window_end job moment))
    (least-more (λ m. free_cpus rooms holds node m) moment (window_end job moment) (window_end job (moment + 1)) window (window-order job moment (moment + 1) (omega arith)) next (omega (arith, held-kept (λ (hold : Hold). hold.cpus) node moment holds quiet.0)))
    (least-within (λ m. free_cpus rooms holds node m) (room_at rooms node).cpus moment (window_end job moment) window (λ m. omega arith))
    (least-more (λ m. free_mem rooms holds node m) moment (window_end job moment) (window_end job (moment + 1)) window (window-order job moment (moment + 1) (omega arith)) next (omega (arith, held-kept (λ (hold : Hold). hold.mem) node moment holds quiet.0)))
    (least-within (λ m. free_mem rooms holds node m) (room_at rooms node).mem moment (window_end job moment) window (λ m. omega arith)))

pub map-more : (f g : ℕ → ℕ) (xs : List ℕ) (i : ℕ) → ((x : ℕ) → f x ≤ g x) → get_or (map f xs) i 0 ≤ get_or (map g xs) i 0
map-more f g [] i more = omega arith
map-more f g (x ∷ xs) zero more = more x
map-more f g (x ∷ xs) (suc i) more = map-more f g xs i more

capacity-more : (rooms : List NodeRoom) (holds : List Hold) (job : PlanJob) (moment place : ℕ) → AllLast holds job.barred (moment + 1) → moment < window_end job moment → moment + 1 < window_end job (moment + 1) → capacity (capacities rooms holds job (moment + 1)) place ≤ capacity (capacities rooms holds job moment) place
unfolding capacities
capacity-more rooms holds job moment place quiet window next =
    map-more (λ node. give rooms holds job (moment + 1) node) (λ node. give rooms holds job moment node) job.nodes place (λ node. give-more rooms holds job moment node quiet window next)

-- a set that fits fits where no node gives less
pub fits-more : (caps more : List ℕ) (need : Need) (set : List ℕ) → ((place : ℕ) → capacity caps place ≤ capacity more place) → Fits caps need set → Fits more need set
fits-more caps more need set grows fits = record {
  rising = fits.rising;
  required = fits.required;
  giving = All-weaker (λ place. 1 ≤ capacity caps place) (λ place. 1 ≤ capacity more place) (λ place one. omega (arith, one, grows place)) set fits.giving;
  enough = omega (arith, fits.enough, sum_by-le-sum_by (λ place. capacity caps place) (λ place. capacity more place) set grows);
  at_most_tasks = fits.at_most_tasks;
  at_least = fits.at_least;
  at_most = fits.at_most;
}

pub none-chosen : (found : Option (List ℕ)) (make : List ℕ → Placed) → option_map make found ≡ None → found ≡ None
none-chosen None make nothing = refl
none-chosen (Some set) make nothing = cc

-- where no set fits none is chosen
pub chosen-none_fits : LowerLaws → (caps : List ℕ) (need : Need) → ((set : List ℕ) → ¬ Fits caps need set) → chosen caps need ≡ None
chosen-none_fits laws caps need nowhere = by (chosen caps need) refl
  where
    by : (found : Option (List ℕ)) → chosen caps need ≡ found → found ≡ None
    by None is = refl
    by (Some set) is = absurd (nowhere set (laws.some caps need set is).fits)

-- no set comes to fit at a second at which none of these ends
next-none : LowerLaws → (rooms : List NodeRoom) (holds : List Hold) (job : PlanJob) (moment : ℕ) → AllLast holds job.barred (moment + 1) → moment < window_end job moment → moment + 1 < window_end job (moment + 1) → placement_at rooms holds job moment ≡ None → placement_at rooms holds job (moment + 1) ≡ None
unfolding placement_at
next-none laws rooms holds job moment quiet window next nothing =
    let nowhere : chosen (capacities rooms holds job moment) job.need ≡ None =
    none-chosen (chosen (capacities rooms holds job moment) job.need) (λ set. record { id = job.id; start = moment; parts = shares_of rooms holds job moment set }) nothing in
    let still : chosen (capacities rooms holds job (moment + 1)) job.need ≡ None =
    chosen-none_fits laws (capacities rooms holds job (moment + 1)) job.need
    (λ set fits. laws.none (capacities rooms holds job moment) job.need set nowhere
    (fits-more (capacities rooms holds job (moment + 1)) (capacities rooms holds job moment) job.need set (λ place. capacity-more rooms holds job moment place quiet window next) fits)) in
    rw still refl

gap-none : LowerLaws → (rooms : List NodeRoom) (holds : List Hold) (job : PlanJob) (start end count : ℕ) → NoneEnds holds job.barred start end → start < window_end job start → start + count < end → start + count < FOREVER → placement_at rooms holds job start ≡ None → placement_at rooms holds job (start + count) ≡ None
gap-none laws rooms holds job start end zero quiet window below early nothing =
    let same : start + 0 ≡ start = omega arith in rw same nothing
gap-none laws rooms holds job start end (suc count) quiet window below early nothing =
    let next : start + suc count ≡ (start + count) + 1 = omega arith in
    let before = gap-none laws rooms holds job start end count quiet window (omega (arith, below)) (omega (arith, early)) nothing in
    rw next (next-none laws rooms holds job (start + count) (quiet.holds_last (start + count + 1) (omega arith) (omega (arith, below)), quiet.times_last (start + count + 1) (omega arith) (omega (arith, below)))
    (window-any job start (start + count) window (omega (arith, early))) (window-any job start (start + count + 1) window (omega (arith, early))) before)

pub none-until : LowerLaws → (rooms : List NodeRoom) (holds : List Hold) (job : PlanJob) (start end moment : ℕ) → NoneEnds holds job.barred start end → start < window_end job start → start ≤ moment → moment < end → moment < FOREVER → placement_at rooms holds job start ≡ None → placement_at rooms holds job moment ≡ None
none-until laws rooms holds job start end moment quiet window from below early nothing =
    let same : moment ≡ start + (moment - start) = omega (arith, from) in
    rw same (gap-none laws rooms holds job start end (moment - start) quiet window (omega (arith, from, below)) (omega (arith, from, early)) nothing)
