-- Where less is held a job fits as well, and is placed no later.
use Rattle.std.proofs.Common.{zero, suc, ℕ, ◌≡◌, ◌≤◌, ◌<◌, ◌+◌, ◌-◌, ◌*◌, ◌/◌, ◌∙◌, min, true, false, ◌&&◌, ◌||◌, not, List, [], ◌∷◌, ◌++◌, map, All, Any, Option, Some, None, length, get_or, take, sum_by, if◌then◌else◌, refl, sym, ap, subst, arith, inl, inr, nat_eq, zero-add}
use Rattle.std.specs.Prelude.{nat_le, nat_lt}
use Rattle.std.specs.List.{list_any}
use Rattle.std.specs.Option.{option_to_list}
use Rattle.std.proofs.Math.Nat.{div-mul-le_self, div-zero}
use Rattle.std.proofs.lemmas.Nat.{le-div}
use Rattle.std.proofs.lemmas.Bool.{and_from, and_left, and_parts, and_right, cases_Bool, cases_lt, eq-eqb, eqb-true, le-leb, le-ltb, leb-true, or_cases, or_from, or_left, or_right}
use Rattle.std.proofs.lemmas.List.{append-nil, append_assoc}
use Rattle.std.proofs.lemmas.List.Elements.{All-head, All-tail, All-weaker}
use Rattle.std.proofs.lemmas.List.Sums.{sum_by-cons}
use Rattle.list_lemmas.proofs.Sums.{sum_by-larger}
use Rattle.plain_data.specs.declared.mem_ask.MemAsk.{MemAsk}
use Rattle.plain_data.specs.declared.mem_ask.MemAsk.TheVariants.{All as AllMem, PerNode, PerCpu}
use Rattle.resource_profile.specs.declared.NodeRoom.{NodeRoom}
use Rattle.resource_profile.specs.declared.Hold.{Hold}
use Rattle.resource_profile.specs.Free.{covers, free_cpus, free_mem, held_cpus, held_mem, least_after, least_over, room_at}
use Rattle.resource_profile.specs.declared.picking.Need.{Need}
use Rattle.resource_profile.specs.Sets.{Fits, capacity}
use Rattle.backfill_planner.specs.declared.Placed.{Placed}
use Rattle.backfill_planner.specs.declared.job.Barred.{Barred}
use Rattle.backfill_planner.specs.declared.job.PlanJob.{PlanJob}
use Rattle.backfill_planner.specs.Bases.{BaseView}
use Rattle.backfill_planner.specs.Giving.{bars, capacities, give, is_barred, may_have, tasks_by_mem, tasks_given, window_end}
use Rattle.backfill_planner.specs.Placements.{FitsAt, IsPlacement}
use Rattle.backfill_planner.specs.Plans.{holds_before, holds_of, placed_of, placement_of, plan_beside, plan_holds_beside, plan_holds_of, plan_of}
use Rattle.user_laws.specs.Planning.{AreOver, BeginsBy, FitsAlone, HoldNoMore, RoomsStay}
use Rattle.daemon_world.proofs.Lists.{any_here, any_right}

-- ---- more gives more

div-more : (n m k : ℕ) → n ≤ m → n / k ≤ m / k
div-more n m zero more = omega (arith, div-zero n, div-zero m)
div-more n m (suc k) more =
    le-div (n / suc k) m (suc k) (omega arith) (omega (arith, more, div-mul-le_self n (suc k)))

by-mem-more : (ask : MemAsk) (cpus : ℕ) (room : NodeRoom) (mem more most higher : ℕ) → mem ≤ more → more ≤ room.mem
    → most ≤ higher → tasks_by_mem ask cpus room mem most ≤ tasks_by_mem ask cpus room more higher
by-mem-more AllMem cpus room mem more most higher rises within up = elim (cases_Bool (nat_eq mem room.mem)) [
  | inl whole ↦
      let still : nat_eq more room.mem ≡ true =
      eq-eqb more room.mem (omega (arith, eqb-true mem room.mem whole, rises, within)) in
      rw (whole, still) up
  | inr partly ↦ rw partly (omega arith)
]
by-mem-more (PerNode asked) cpus room mem more most higher rises within up = elim (cases_Bool (nat_le asked mem)) [
  | inl enough ↦
      let still : nat_le asked more ≡ true = le-leb asked more (omega (arith, leb-true asked mem enough, rises)) in
      rw (enough, still) up
  | inr little ↦ rw little (omega arith)
]
by-mem-more (PerCpu asked) cpus room mem more most higher rises within up =
    omega (arith, up, div-more mem more (asked * cpus) rises)

-- a node may be had of which more is free
may-more : (job : PlanJob) (room : NodeRoom) (cpus more_cpus mem more_mem : ℕ) → cpus ≤ more_cpus
    → more_cpus ≤ room.cpus → mem ≤ more_mem → more_mem ≤ room.mem → may_have job room cpus mem ≡ true
    → may_have job room more_cpus more_mem ≡ true
may-more job room cpus more_cpus mem more_mem up_cpus within_cpus up_mem within_mem may =
    let whole = nat_eq cpus room.cpus && nat_eq mem room.mem in
    let still = nat_eq more_cpus room.cpus && nat_eq more_mem room.mem in
    let parts = and_parts room.usable (not job.exclusive || whole) may in
    and_from room.usable (not job.exclusive || still) parts.0
    (elim (or_cases (not job.exclusive) whole parts.1) [
      | inl shares ↦ or_left (not job.exclusive) still shares
      | inr all ↦
          let both = and_parts (nat_eq cpus room.cpus) (nat_eq mem room.mem) all in
          or_right (not job.exclusive) still
          (and_from (nat_eq more_cpus room.cpus) (nat_eq more_mem room.mem)
          (eq-eqb more_cpus room.cpus (omega (arith, eqb-true cpus room.cpus both.0, up_cpus, within_cpus)))
          (eq-eqb more_mem room.mem (omega (arith, eqb-true mem room.mem both.1, up_mem, within_mem))))
    ])

tasks-more : (job : PlanJob) (room : NodeRoom) (cpus more_cpus mem more_mem : ℕ) → cpus ≤ more_cpus
    → more_cpus ≤ room.cpus → mem ≤ more_mem → more_mem ≤ room.mem
    → tasks_given job room cpus mem ≤ tasks_given job room more_cpus more_mem
tasks-more job room cpus more_cpus mem more_mem up_cpus within_cpus up_mem within_mem =
    elim (cases_Bool (may_have job room cpus mem)) [
      | inl may ↦
          let also = may-more job room cpus more_cpus mem more_mem up_cpus within_cpus up_mem within_mem may in
          rw (may, also)
          (by-mem-more job.mem_ask job.cpus_per_task room mem more_mem (min job.per_node (cpus / job.cpus_per_task))
          (min job.per_node (more_cpus / job.cpus_per_task)) up_mem within_mem
          (omega (arith, div-more cpus more_cpus job.cpus_per_task up_cpus)))
      | inr never ↦ rw never (omega arith)
    ]

-- the least of more is more, and no more than the first
least-more : (free more : ℕ → ℕ) (from count : ℕ) → ((moment : ℕ) → from ≤ moment → free moment ≤ more moment)
    → least_after free from count ≤ least_after more from count
unfolding least_after
least-more free more from zero rises = rises from (omega arith)
least-more free more from (suc count) rises =
    omega (
      arith,
      rises from (omega arith),
      least-more free more (from + 1) count (λ moment later. rises moment (omega (arith, later))),
    )

least-first : (free : ℕ → ℕ) (from count : ℕ) → least_after free from count ≤ free from
unfolding least_after
least-first free from zero = omega arith
least-first free from (suc count) = omega arith

-- ---- a node gives as much where less is held

gives-more : (rooms : List NodeRoom) (holds less : List Hold) (job : PlanJob) (start node : ℕ)
    → HoldNoMore holds less start
    → tasks_given job (room_at rooms node)
    (least_over (λ moment. free_cpus rooms holds node moment) start (window_end job start))
    (least_over (λ moment. free_mem rooms holds node moment) start (window_end job start))
    ≤ tasks_given job (room_at rooms node)
    (least_over (λ moment. free_cpus rooms less node moment) start (window_end job start))
    (least_over (λ moment. free_mem rooms less node moment) start (window_end job start))
gives-more rooms holds less job start node no_more =
    let room = room_at rooms node in
    let count = window_end job start - start - 1 in
    tasks-more job room
    (least_over (λ moment. free_cpus rooms holds node moment) start (window_end job start))
    (least_over (λ moment. free_cpus rooms less node moment) start (window_end job start))
    (least_over (λ moment. free_mem rooms holds node moment) start (window_end job start))
    (least_over (λ moment. free_mem rooms less node moment) start (window_end job start))
    (least-more (λ moment. free_cpus rooms holds node moment) (λ moment. free_cpus rooms less node moment) start count
    (λ moment later. omega (arith, no_more.cpus node moment later)))
    (omega (arith, least-first (λ moment. free_cpus rooms less node moment) start count))
    (least-more (λ moment. free_mem rooms holds node moment) (λ moment. free_mem rooms less node moment) start count
    (λ moment later. omega (arith, no_more.mem node moment later)))
    (omega (arith, least-first (λ moment. free_mem rooms less node moment) start count))

capacity-more : (one other : ℕ → ℕ) (nodes : List ℕ) (place : ℕ) → ((node : ℕ) → one node ≤ other node)
    → capacity (map one nodes) place ≤ capacity (map other nodes) place
capacity-more one other [] place more = omega arith
capacity-more one other (node ∷ nodes) zero more = more node
capacity-more one other (node ∷ nodes) (suc place) more = capacity-more one other nodes place more

fits-more : (caps wider : List ℕ) (need : Need) (set : List ℕ)
    → ((place : ℕ) → capacity caps place ≤ capacity wider place) → Fits caps need set → Fits wider need set
fits-more caps wider need set more fits = record {
  rising = fits.rising;
  required = fits.required;
  giving = All-weaker (λ (place : ℕ). 1 ≤ capacity caps place) (λ (place : ℕ). 1 ≤ capacity wider place)
      (λ place gives. omega (arith, gives, more place)) set fits.giving;
  enough = omega (
    arith,
    fits.enough,
    sum_by-larger (λ (place : ℕ). capacity caps place) (λ (place : ℕ). capacity wider place) set
        (λ k d below. more (get_or set k d)),
  );
  at_most_tasks = fits.at_most_tasks;
  at_least = fits.at_least;
  at_most = fits.at_most;
}

-- so it does where its room is the same, or where it wasn't of use before
gives-on : (rooms next : List NodeRoom) (holds less : List Hold) (job : PlanJob) (start node : ℕ)
    → RoomsStay rooms next → HoldNoMore holds less start
    → tasks_given job (room_at rooms node)
    (least_over (λ moment. free_cpus rooms holds node moment) start (window_end job start))
    (least_over (λ moment. free_mem rooms holds node moment) start (window_end job start))
    ≤ tasks_given job (room_at next node)
    (least_over (λ moment. free_cpus next less node moment) start (window_end job start))
    (least_over (λ moment. free_mem next less node moment) start (window_end job start))
gives-on rooms next holds less job start node stay no_more =
    let room = room_at rooms node in
    let cpus = least_over (λ moment. free_cpus rooms holds node moment) start (window_end job start) in
    let mem = least_over (λ moment. free_mem rooms holds node moment) start (window_end job start) in
    elim (cases_Bool room.usable) [
      | inl usable ↦
          subst
          (λ (other : NodeRoom). tasks_given job room cpus mem
          ≤ tasks_given job other
          (least_over (λ moment. other.cpus - held_cpus less node moment) start (window_end job start))
          (least_over (λ moment. other.mem - held_mem less node moment) start (window_end job start)))
          (sym (stay node usable)) (gives-more rooms holds less job start node no_more)
      | inr unusable ↦
          let never : may_have job room cpus mem ≡ false = and_left room.usable _ unusable in
          rw never (omega arith)
    ]

fits-still : (rooms next : List NodeRoom) (holds less : List Hold) (job : PlanJob) (second : ℕ) (set : List ℕ)
    → RoomsStay rooms next → HoldNoMore holds less second → FitsAt rooms holds job second set
    → FitsAt next less job second set
unfolding capacities
fits-still rooms next holds less job second set stay no_more fits =
    fits-more (map (λ node. give rooms holds job second node) job.nodes)
    (map (λ node. give next less job second node) job.nodes) job.need set
    (λ place. capacity-more (λ node. give rooms holds job second node) (λ node. give next less job second node)
    job.nodes place
    (λ node. elim (cases_Bool (is_barred job.barred node second (window_end job second))) [
      | inl barred ↦ rw barred (omega arith)
      | inr free ↦ rw free (gives-on rooms next holds less job second node stay no_more)
    ])) fits

-- ---- the first never slips

-- what the crate below says of placements
pub record Firsts : Type 0 where
  pub some : (rooms : List NodeRoom) (holds : List Hold) (job : PlanJob) (lo hi : ℕ) (placed : Placed)
      → placed_of rooms holds job lo hi ≡ Some placed → IsPlacement rooms holds job lo hi placed
  pub none : (rooms : List NodeRoom) (holds : List Hold) (job : PlanJob) (lo hi second : ℕ) (set : List ℕ)
      → placed_of rooms holds job lo hi ≡ None → lo ≤ second → second ≤ hi → ¬ FitsAt rooms holds job second set

-- who fits at a second is placed by then
begins-by : Firsts → (rooms : List NodeRoom) (holds : List Hold) (job : PlanJob) (lo hi second : ℕ) (set : List ℕ)
    → lo ≤ second → second ≤ hi → FitsAt rooms holds job second set → (found : Option Placed)
    → placed_of rooms holds job lo hi ≡ found → BeginsBy second found
begins-by firsts rooms holds job lo hi second set after before fits None is =
    absurd (firsts.none rooms holds job lo hi second set is after before fits)
begins-by firsts rooms holds job lo hi second set after before fits (Some placed) is =
    elim (cases_lt second placed.start) [
      | inl late ↦
          absurd ((firsts.some rooms holds job lo hi placed is).first second set after late fits)
      | inr by ↦ by
    ]

-- the first job is placed beside what the base holds
first-beside : (base : BaseView) (job : PlanJob) (ranked : List PlanJob) (now : ℕ)
    → placement_of base (job ∷ ranked) now 0 job ≡ placed_of base.rooms base.holds job now base.horizon
unfolding plan_holds_of plan_holds_beside
first-beside base job ranked now =
    ap (λ (holds : List Hold). placed_of base.rooms holds job now base.horizon) (append-nil base.holds)

pub never_slips : Firsts → (base next : BaseView) (job : PlanJob) (ranked others : List PlanJob) (now moment : ℕ)
    (placed : Placed) → RoomsStay base.rooms next.rooms → HoldNoMore base.holds next.holds moment
    → placement_of base (job ∷ ranked) now 0 job ≡ Some placed → moment ≤ placed.start → placed.start ≤ next.horizon
    → BeginsBy placed.start (placement_of next (job ∷ others) moment 0 job)
never_slips firsts base next job ranked others now moment placed rooms no_more is after before =
    let was = firsts.some base.rooms base.holds job now base.horizon placed
    (sym (first-beside base job ranked now) ∙ is) in
    let fits = was.is_chosen.fits in
    let later : HoldNoMore base.holds next.holds placed.start = record {
      cpus = λ node later since. no_more.cpus node later (omega (arith, since, after));
      mem = λ node later since. no_more.mem node later (omega (arith, since, after));
    } in
    let here = fits-still base.rooms next.rooms base.holds next.holds job placed.start was.set rooms later fits in
    begins-by firsts next.rooms next.holds job moment next.horizon placed.start was.set after before here
    (placement_of next (job ∷ others) moment 0 job) (sym (first-beside next job others moment))

-- ---- who fits at last is planned

none-held : (amount : Hold → ℕ) (holds : List Hold) (node second moment : ℕ) → second ≤ moment
    → All (λ (hold : Hold). hold.until ≤ second) holds
    → sum_by (λ (hold : Hold). if covers node moment hold then amount hold else 0) holds ≡ 0
none-held amount [] node second moment later over = refl
none-held amount (hold ∷ holds) node second moment later over =
    let Over = λ (hold : Hold). hold.until ≤ second in
    let ended : nat_lt moment hold.until ≡ false =
    le-ltb moment hold.until (omega (arith, All-head Over hold holds over, later)) in
    let uncovered : covers node moment hold ≡ false =
    and_right (nat_eq hold.node node) (nat_le hold.from moment && nat_lt moment hold.until)
    (and_right (nat_le hold.from moment) (nat_lt moment hold.until) ended) in
    sum_by-cons (λ (hold : Hold). if covers node moment hold then amount hold else 0) hold holds
    ∙ rw uncovered
    (zero-add (sum_by (λ (hold : Hold). if covers node moment hold then amount hold else 0) holds)
    ∙ none-held amount holds node second moment later (All-tail Over hold holds over))

hold-nothing : (holds : List Hold) (second : ℕ) → All (λ (hold : Hold). hold.until ≤ second) holds
    → HoldNoMore [] holds second
hold-nothing holds second over = record {
  cpus = λ node moment later. omega (arith, none-held (λ hold. hold.cpus) holds node second moment later over);
  mem = λ node moment later. omega (arith, none-held (λ hold. hold.mem) holds node second moment later over);
}

none-barred : (barred : List Barred) (node second until : ℕ) → All (λ (time : Barred). time.until ≤ second) barred
    → is_barred barred node second until ≡ false
none-barred [] node second until over = refl
none-barred (time ∷ barred) node second until over =
    let Over = λ (time : Barred). time.until ≤ second in
    or_from (bars node second until time) (list_any (bars node second until) barred)
    (and_right _ (nat_lt second time.until && nat_lt time.from until)
    (and_left (nat_lt second time.until) (nat_lt time.from until)
    (le-ltb second time.until (All-head Over time barred over))))
    (none-barred barred node second until (All-tail Over time barred over))

fits-at-last : (rooms : List NodeRoom) (holds : List Hold) (job : PlanJob) (second : ℕ) (set : List ℕ)
    → AreOver holds job.barred second → FitsAlone rooms job second set → FitsAt rooms holds job second set
unfolding capacities
fits-at-last rooms holds job second set over fits =
    let alone = record job { barred = [] } in
    fits-more (map (λ node. give rooms [] alone second node) job.nodes)
    (map (λ node. give rooms holds job second node) job.nodes) job.need set
    (λ place. capacity-more (λ node. give rooms [] alone second node) (λ node. give rooms holds job second node)
    job.nodes place
    (λ node. rw (none-barred job.barred node second (window_end job second) over.barred)
    (gives-more rooms [] holds job second node (hold-nothing holds second over.holds)))) fits

-- a placement of the job by then is among these
abbrev pub IsPlannedBy : PlanJob → ℕ → Placed → Type 0
IsPlannedBy job second placed = (placed.id ≡ job.id) × (placed.start ≤ second)

there-by : Firsts → (rooms : List NodeRoom) (holds : List Hold) (job : PlanJob) (lo hi second : ℕ)
    (found : Option Placed) (later : List Placed) → placed_of rooms holds job lo hi ≡ found → BeginsBy second found
    → Any (IsPlannedBy job second) (option_to_list found ++ later)
there-by firsts rooms holds job lo hi second None later is by = absurd by
there-by firsts rooms holds job lo hi second (Some placed) later is by =
    any_here (IsPlannedBy job second) placed later ((firsts.some rooms holds job lo hi placed is).id, by)

over-same : (one other : List Hold) (barred : List Barred) (second : ℕ) → one ≡ other → AreOver one barred second
    → AreOver other barred second
over-same one other barred second same over =
    subst (λ (held : List Hold). AreOver held barred second) same over

beside-planned : Firsts → (base : BaseView) (now : ℕ) (held : List Hold) (ranked : List PlanJob) (place : ℕ)
    (job : PlanJob) (second : ℕ) (set : List ℕ) → place < length ranked → get_or ranked place job ≡ job
    → now ≤ second → second ≤ base.horizon
    → AreOver (held ++ plan_holds_beside base now held (take place ranked)) job.barred second
    → FitsAlone base.rooms job second set → Any (IsPlannedBy job second) (plan_beside base now held ranked)
unfolding plan_beside plan_holds_beside
beside-planned firsts base now held [] place job second set below is after before over fits =
    absurd (omega (arith, below))
beside-planned firsts base now held (first ∷ later) zero job second set below is after before over fits =
    let rest = plan_beside base now (held ++ holds_of first (placed_of base.rooms held first now base.horizon)) later in
    let here = fits-at-last base.rooms held job second set
    (over-same (held ++ []) held job.barred second (append-nil held) over) fits in
    let found = placed_of base.rooms held first now base.horizon in
    let same : placed_of base.rooms held job now base.horizon ≡ found =
    ap (λ (one : PlanJob). placed_of base.rooms held one now base.horizon) (sym is) in
    there-by firsts base.rooms held job now base.horizon second found rest same
    (begins-by firsts base.rooms held job now base.horizon second set after before here found same)
beside-planned firsts base now held (first ∷ later) (suc place) job second set below is after before over fits =
    let placed = placed_of base.rooms held first now base.horizon in
    let more = held ++ holds_of first placed in
    let rest = plan_holds_beside base now more (take place later) in
    any_right (IsPlannedBy job second) (option_to_list placed) (plan_beside base now more later)
    (beside-planned firsts base now more later place job second set (omega (arith, below)) is after before
    (over-same (held ++ (holds_of first placed ++ rest)) (more ++ rest) job.barred second
    (sym (append_assoc held (holds_of first placed) rest)) over) fits)

pub fits_planned : Firsts → (base : BaseView) (ranked : List PlanJob) (now place : ℕ) (job : PlanJob) (second : ℕ)
    (set : List ℕ) → place < length ranked → get_or ranked place job ≡ job → now ≤ second → second ≤ base.horizon
    → AreOver (holds_before base ranked now place) job.barred second → FitsAlone base.rooms job second set
    → Any (λ (placed : Placed). (placed.id ≡ job.id) × (placed.start ≤ second)) (plan_of base ranked now)
unfolding plan_of plan_holds_of
fits_planned firsts base ranked now place job second set below is after before over fits =
    beside-planned firsts base now base.holds ranked place job second set below is after before over fits
