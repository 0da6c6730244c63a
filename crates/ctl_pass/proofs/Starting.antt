-- The starts of a plan: what each takes, that all stays sound, that each job gets what was planned, and that none
-- reaches a limit.
use Rattle.std.proofs.lemmas.Bool.Decides.{nat_tests}
use Rattle.std.proofs.Common.{◌≡◌, ◌≢◌, ◌⊎◌, ℕ, zero, suc, ◌+◌, ◌≤◌, ◌<◌, true, false, ◌&&◌, not, cond, eqb, List, [], ◌∷◌, length, map, fold, take, get_or, sum_by, All, Any, Contains, refl, ap, sym, ◌∙◌, arith, inl, inr}
use Rattle.std.specs.List.{AllZip}
use Rattle.std.proofs.lemmas.Bool.{cases_Bool, and_parts, eq-eqb, eqb-true, ne_eqb}
use Rattle.std.proofs.lemmas.List.{length-take, length-take-le, length-map, get_or-map}
use Rattle.std.proofs.lemmas.List.Elements.{All-head, All-tail, All-map, All-take, All-cons, All-nil}
use Rattle.std.proofs.lemmas.List.Kept.{AllPairs-cons}
use Rattle.std.proofs.lemmas.List.Sums.{sum_by-cons, sum_by-le-sum_by, get_or-le-sum_by}
use Rattle.resource_profile.specs.declared.NodeRoom.{NodeRoom}
use Rattle.resource_profile.specs.Free.{room_at}
use Rattle.backfill_planner.specs.declared.Placed.{Placed}
use Rattle.backfill_planner.specs.declared.Share.{Share}
use Rattle.backfill_planner.specs.Plans.{starts_at, cpus_on, mem_on}
use Rattle.job_table.specs.declared.record.JobRecord.{JobRecord}
use Rattle.job_table.specs.declared.record.Part.{Part}
use Rattle.job_table.specs.JobStates.{is_pending}
use Rattle.node_state.specs.declared.record.NodeRecord.{NodeRecord}
use Rattle.node_state.specs.Nodes.{is_up}
use Rattle.node_state.specs.declared.reservation_record.Reservation.{Reservation}
use Rattle.ctl_state.specs.declared.record.ArrayRecord.{ArrayRecord}
use Rattle.ctl_state.specs.Events.{started_as, MayTake}
use Rattle.ctl_state.specs.Holding.{cpus_of, times_held, free_ids, IsPartOf, parts_of, mem_of, mem_in, mem_held, has_members}
use Rattle.ctl_state.specs.Laws.{Taking, TakenTimes, TakenMem, OthersWait, Planning}
use Rattle.ctl_state.specs.Planning.{names_of, room_of}
use Rattle.ctl_state.specs.Soundness.{IsSound, PlansPending, is_up_at, pending_ids}
use Rattle.ctl_state.specs.State.{State, last_second}
use Rattle.ctl_pass.specs.Starting.{JobStart, Started, WasHeldBack, part_of, start_of, begun, started, may_start, IsAsPlanned, HasStarted}
use Rattle.ctl_pass.specs.Taking.{CanStart, IsReady}
use Rattle.ctl_pass.proofs.Held.{cpus_in, held-counted, held-grown, free-counted, free-are}
use Rattle.ctl_pass.proofs.Lists.{sum_by-map, pairs-take, pairs-map, Any-kept}
use Rattle.ctl_pass.proofs.Readied.{no-plan}
use Rattle.list_lemmas.proofs.Pairs.{pairs-head, pairs-tail}

-- only the nodes and the accounts matter of the state beside which placements start
pub started-same : (s : State) (now moment : ℕ) (table jobs : List JobRecord) (usage : List ℕ)
    (arrays : List ArrayRecord) (reservations : List Reservation) (left plan : List Placed)
    → let after = record s {
      jobs = table;
      usage = usage;
      arrays = arrays;
      reservations = reservations;
      plan = left;
      moment = moment;
    } in
    started after now jobs plan ≡ started s now jobs plan
unfolding started may_start
started-same s now moment table jobs usage arrays reservations left [] = refl
started-same s now moment table jobs usage arrays reservations left (placed ∷ later) =
    rw (
      started-same s now moment table (begun now jobs (start_of s.nodes jobs placed)) usage arrays reservations left later,
      started-same s now moment table jobs usage arrays reservations left later,
    ) refl

-- what each start keeps of the jobs, all of them keep
pub started-keeps : (P : List JobRecord → Type 0) (s : State) (now : ℕ) (jobs : List JobRecord) (plan : List Placed)
    → All (λ (placed : Placed). placed.start ≡ now → (some : List JobRecord) (parts : List Part) (names : List (List ℕ))
    → P some → P (map (started_as now placed.id parts names) some)) plan
    → P jobs → P (started s now jobs plan).jobs
unfolding started
started-keeps P s now jobs [] keeps has = has
started-keeps P s now jobs (placed ∷ later) keeps has =
    let Keeps : Placed → Type 0 = λ one. one.start ≡ now
    → (some : List JobRecord) (parts : List Part) (names : List (List ℕ)) → P some
    → P (map (started_as now one.id parts names) some) in
    let rest = All-tail Keeps placed later keeps in
    let start = start_of s.nodes jobs placed in
    elim (cases_Bool (eqb placed.start now && may_start s jobs placed.id)) [
      | inr stays ↦ rw stays (started-keeps P s now jobs later rest has)
      | inl goes ↦
          let due = eqb-true placed.start now (and_parts (eqb placed.start now) (may_start s jobs placed.id) goes).0 in
          rw goes (started-keeps P s now (begun now jobs start) later rest
          (All-head Keeps placed later keeps due jobs start.parts start.nodes has))
    ]

-- those that stay are some of the placements
all-stay : (P : Placed → Type 0) (s : State) (now : ℕ) (jobs : List JobRecord) (plan : List Placed) → All P plan
    → All P (started s now jobs plan).stays
unfolding started
all-stay P s now jobs [] all = All-nil P
all-stay P s now jobs (placed ∷ later) all = elim (cases_Bool (eqb placed.start now && may_start s jobs placed.id)) [
  | inl goes ↦ rw goes (all-stay P s now (begun now jobs (start_of s.nodes jobs placed)) later
      (All-tail P placed later all))
  | inr stays ↦ rw stays (All-cons P placed (started s now jobs later).stays (All-head P placed later all)
      (all-stay P s now jobs later (All-tail P placed later all)))
]

-- the laws of starts that a pass rests on
pub record StartLaws : Type 0 where
  pub taking : Taking
  pub times : TakenTimes
  pub mem : TakenMem
  pub waits : OthersWait
  pub planned : Planning

-- the parts that a placement gets, and the state once it has started
abbrev pub parts_for : State → Placed → List Part
parts_for s placed = map (part_of (map room_of s.nodes) s.jobs) placed.parts

abbrev pub after_start : State → Placed → State
after_start s placed = record s { jobs = begun s.moment s.jobs (start_of s.nodes s.jobs placed); plan = [] }

-- a node that a plan may use is up
usable-up : (nodes : List NodeRecord) (node : ℕ) → (room_at (map room_of nodes) node).usable ≡ true
    → is_up_at nodes node ≡ true
usable-up [] node usable = usable
usable-up (one ∷ nodes) zero usable = (and_parts (is_up one.down) (not one.drain) usable).0
usable-up (one ∷ nodes) (suc node) usable = usable-up nodes node usable

-- they take no more than was planned
cpus-taken : (s : State) (placed : Placed) (node : ℕ) → sum_by (cpus_in node) (parts_for s placed) ≤ cpus_on node placed
cpus-taken s placed node =
    let part = part_of (map room_of s.nodes) s.jobs in
    let amount : Share → ℕ = λ share. cond (eqb share.node node) share.cpus 0 in
    let each = λ (share : Share). length-take share.cpus
    (free_ids (map room_of s.nodes) (parts_of s.jobs) share.node) in
    omega (
      arith,
      sum_by-map (cpus_in node) part placed.parts,
      sum_by-le-sum_by (λ share. cpus_in node (part share)) amount placed.parts
          (λ share. grind (arith, nat_tests, each share)),
    )

mem-taken : (s : State) (placed : Placed) (node : ℕ) → mem_held (parts_for s placed) node ≡ mem_on node placed
unfolding mem_held
mem-taken s placed node = sum_by-map (mem_in node) (part_of (map room_of s.nodes) s.jobs) placed.parts

-- and a placement with memory for it may take them
may-take : (s : State) (placed : Placed) → IsReady s placed
    → ((node : ℕ) → mem_held (parts_of s.jobs) node + mem_on node placed ≤ mem_of (map room_of s.nodes) node)
    → MayTake s.nodes s.jobs placed.id (parts_for s placed)
may-take s placed ready fits =
    let rooms = map room_of s.nodes in
    let held = parts_of s.jobs in
    let part = part_of rooms s.jobs in
    let shares = placed.parts in
    let free = λ (share : Share). free-are rooms held share.node in
    record {
      waits = ready.waits;
      some = some shares ready.some;
      each = All-map (IsPartOf rooms) part shares (λ k d below. let share = get_or shares k d in record {
        node = (ready.parts.each k d below).node;
        rising = pairs-take (λ one other. one < other) share.cpus (free_ids rooms held share.node) (free share).0;
        cpus = All-take (λ cpu. cpu < cpus_of rooms share.node) share.cpus (free_ids rooms held share.node)
            (free share).1;
      });
      up = All-map (λ (part : Part). is_up_at s.nodes part.node ≡ true) part shares
          (λ k d below. usable-up s.nodes (get_or shares k d).node (ready.parts.each k d below).usable);
      apart = pairs-map (λ (one other : Part). one.node ≢ other.node) part shares ready.parts.apart;
      unheld = All-map (λ (part : Part). All (λ cpu. times_held held part.node cpu ≡ 0) part.cpus) part shares
          (λ k d below. let share = get_or shares k d in
          All-take (λ cpu. times_held held share.node cpu
          ≡ 0) share.cpus (free_ids rooms held share.node) (free share).2);
      mem = λ node. omega (arith, fits node, mem-taken s placed node);
    }
  where
    some : (shares : List Share) → 1 ≤ length shares
        → has_members (map (part_of (map room_of s.nodes) s.jobs) shares) ≡ true
    some [] more = absurd (omega (arith, more))
    some (share ∷ shares) more = refl

-- without the first placement, the others can start as well
pub can-later : (s : State) (placed : Placed) (later : List Placed) → CanStart s (placed ∷ later) → CanStart s later
can-later s placed later can = record {
  sound = can.sound;
  each = All-tail (IsReady s) placed later can.each;
  apart = pairs-tail (λ (one other : Placed). one.id ≢ other.id) placed later can.apart;
  cpus = λ node. omega (arith, can.cpus node, fewer (cpus_on node));
  mem = λ node. omega (arith, can.mem node, fewer (mem_on node));
}
  where
    fewer : (amount : Placed → ℕ)
        → sum_by amount (starts_at s.moment later) ≤ sum_by amount (starts_at s.moment (placed ∷ later))
    fewer amount = grind (arith, nat_tests, sum_by-cons amount placed (starts_at s.moment later))

-- the state beside these jobs, with no plan yet
abbrev pub beside : State → List JobRecord → State
beside s jobs = record s { jobs = jobs; plan = [] }

module _ (laws : StartLaws) where
  -- where the first placement is due, the others can start after it
  pub can-begun : (s : State) (placed : Placed) (later : List Placed) → CanStart s (placed ∷ later)
      → eqb placed.start s.moment ≡ true → CanStart (after_start s placed) later
  can-begun s placed later can due =
      let rooms = map room_of s.nodes in
      let held = parts_of s.jobs in
      let more = parts_for s placed in
      let names = names_of s.nodes more in
      let first = All-head (IsReady s) placed later can.each in
      let rest = All-tail (IsReady s) placed later can.each in
      let apart = pairs-head (λ (one other : Placed). one.id ≢ other.id) placed later can.apart in
      let cpus : (node : ℕ)
      → sum_by (cpus_on node) (placed ∷ starts_at s.moment later) ≤ length (free_ids rooms held node) =
      λ node. rw due at (can.cpus node) in
      let mem : (node : ℕ)
      → mem_held held node + sum_by (mem_on node) (placed ∷ starts_at s.moment later) ≤ mem_of rooms node =
      λ node. rw due at (can.mem node) in
      let may = may-take s placed first (λ node. omega (
        arith,
        mem node,
        sum_by-cons (mem_on node) placed (starts_at s.moment later),
      )) in
      let sound = laws.taking s placed.id more names [] can.sound may
      (no-plan (map (started_as s.moment placed.id more names) s.jobs)) in
      record {
        sound = sound;
        each = λ k d below. let was = rest k d below in
            let waits = laws.waits s.jobs s.moment placed.id (get_or later k d).id more names was.waits
            (λ same. apart k d below (sym same)) in
            record { waits = waits; last = was.last; some = was.some; parts = was.parts };
        apart = pairs-tail (λ (one other : Placed). one.id ≢ other.id) placed later can.apart;
        cpus = λ node.
            let grown = held-grown rooms held more (parts_of (after_start s placed).jobs) node
            (λ cpu. laws.times s s.moment placed.id node cpu more names can.sound first.waits) in
            omega (
              arith,
              cpus node,
              sum_by-cons (cpus_on node) placed (starts_at s.moment later),
              free-counted rooms held node (can.sound.held.once node),
              free-counted rooms (parts_of (after_start s placed).jobs) node (sound.held.once node),
              grown,
              held-counted rooms more node may.each,
              cpus-taken s placed node,
            );
        mem = λ node.
            omega (
              arith,
              mem node,
              sum_by-cons (mem_on node) placed (starts_at s.moment later),
              laws.mem s s.moment placed.id node more names can.sound first.waits,
              mem-taken s placed node,
            );
      }

  -- so the starts keep all sound, and what stays of the plan names pending jobs
  pub sound-started : (s : State) (jobs : List JobRecord) (plan : List Placed) → CanStart (beside s jobs) plan
      → IsSound (record s { jobs = (started s s.moment jobs plan).jobs; plan = (started s s.moment jobs plan).stays })
  unfolding started
  sound-started s jobs [] can = can.sound
  sound-started s jobs (placed ∷ later) can =
      elim (cases_Bool (eqb placed.start s.moment && may_start s jobs placed.id)) [
        | inl goes ↦
            let due = (and_parts (eqb placed.start s.moment) (may_start s jobs placed.id) goes).0 in
            rw goes (sound-started s (begun s.moment jobs (start_of s.nodes jobs placed)) later
            (can-begun (beside s jobs) placed later can due))
        | inr stays ↦
            let rest = started s s.moment jobs later in
            let sound = sound-started s jobs later (can-later (beside s jobs) placed later can) in
            let first = All-head (IsReady (beside s jobs)) placed later can.each in
            let apart = pairs-head (λ (one other : Placed). one.id ≢ other.id) placed later can.apart in
            let still_waits = started-keeps (λ some. Contains (pending_ids some) placed.id) s s.moment jobs later
            (λ k d below due some parts names waits. laws.waits some s.moment (get_or later k d).id placed.id parts
            names
            waits (apart k d below)) first.waits in
            let planned : PlansPending rest.jobs (placed ∷ rest.stays) = record {
              pending = All-cons (λ (one : Placed). Contains (pending_ids rest.jobs) one.id) placed rest.stays
                  still_waits
                  sound.plan.pending;
              once = AllPairs-cons (λ (one other : Placed). one.id ≢ other.id) placed rest.stays
                  (all-stay (λ (one : Placed). placed.id ≢ one.id) s s.moment jobs later apart) sound.plan.once;
              last = All-cons (λ (one : Placed). one.start ≤ last_second) placed rest.stays
                  (omega (arith, first.last)) sound.plan.last;
            } in
            rw stays (laws.planned (record s { jobs = rest.jobs; plan = rest.stays }) (placed ∷ rest.stays) sound
            planned)
      ]

-- a share takes no more than its placement, so where that fits the share gets all its processors
given : (rooms : List NodeRoom) (jobs : List JobRecord) (shares : List Share)
    → All (λ (share : Share). share.cpus ≤ length (free_ids rooms (parts_of jobs) share.node)) shares
    → AllZip IsAsPlanned shares (map (part_of rooms jobs) shares)
given rooms jobs [] fit = tt
given rooms jobs (share ∷ shares) fit =
    let fits : Share → Type 0 = λ one. one.cpus ≤ length (free_ids rooms (parts_of jobs) one.node) in
    let cpus = length-take-le share.cpus (free_ids rooms (parts_of jobs) share.node) (All-head fits share shares fit) in
    (record { node = refl; cpus = cpus; mem = refl }, given rooms jobs shares (All-tail fits share shares fit))

-- what is free of a node is enough for each share of the first that starts
pub fits-first : (s : State) (placed : Placed) (later : List Placed) → CanStart s (placed ∷ later)
    → eqb placed.start s.moment ≡ true
    → All (λ (share : Share). (share.cpus ≤ length (free_ids (map room_of s.nodes) (parts_of s.jobs) share.node))
    × (mem_held (parts_of s.jobs) share.node + share.mem ≤ mem_of (map room_of s.nodes) share.node)) placed.parts
fits-first s placed later can due = λ k d below.
    let share = get_or placed.parts k d in
    let cpus : Share → ℕ = λ one. cond (eqb one.node share.node) one.cpus 0 in
    let mem : Share → ℕ = λ one. cond (eqb one.node share.node) one.mem 0 in
    let whole : (cpus share ≡ share.cpus) × (mem share ≡ share.mem) =
    rw (eq-eqb share.node share.node refl) (refl, refl) in
    let free = rw due at (can.cpus share.node) in
    let room = rw due at (can.mem share.node) in (
      omega (
        arith,
        whole.0,
        get_or-le-sum_by cpus placed.parts k d below,
        free,
        sum_by-cons (cpus_on share.node) placed (starts_at s.moment later),
      ),
      omega (
        arith,
        whole.1,
        get_or-le-sum_by mem placed.parts k d below,
        room,
        sum_by-cons (mem_on share.node) placed (starts_at s.moment later),
      ),
    )

-- the first that starts
given-first : (s : State) (placed : Placed) (later : List Placed) → CanStart s (placed ∷ later)
    → eqb placed.start s.moment ≡ true → Any (HasStarted s.moment placed) (after_start s placed).jobs
given-first s placed later can due =
    let rooms = map room_of s.nodes in
    let fits : All (λ (share : Share). share.cpus ≤ length (free_ids rooms (parts_of s.jobs) share.node)) placed.parts =
    λ k d below. (fits-first s placed later can due k d below).0 in
    by (given rooms s.jobs placed.parts fits) (Any-kept (λ (job : JobRecord). job.id)
    (λ (job : JobRecord). is_pending job.state) placed.id s.jobs (All-head (IsReady s) placed later can.each).waits)
  where
    by : AllZip IsAsPlanned placed.parts (parts_for s placed)
        → Any (λ (job : JobRecord). (job.id ≡ placed.id) × (is_pending job.state ≡ true)) s.jobs
        → Any (HasStarted s.moment placed) (after_start s placed).jobs
    by as_planned (k, job, inside, is, (here, pending)) =
        let start = started_as s.moment placed.id (parts_for s placed) (names_of s.nodes (parts_for s placed)) in
        let starts : HasStarted s.moment placed (start job) =
        rw (eq-eqb job.id placed.id here) (record {
          id = here;
          state = refl;
          started = refl;
          parts =
              as_planned;
        }) in (
          k,
          start job,
          omega (arith, inside, length-map s.jobs start),
          get_or-map start s.jobs k job (start job) inside
              ∙ ap start is,
          starts,
        )

-- no other start changes it
stays-given : (s : State) (now : ℕ) (jobs : List JobRecord) (placed : Placed) (plan : List Placed)
    → All (λ (other : Placed). placed.id ≢ other.id) plan
    → Any (HasStarted now placed) jobs → Any (HasStarted now placed) (started s now jobs plan).jobs
stays-given s now jobs placed plan differ =
    started-keeps (Any (HasStarted now placed)) s now jobs plan
    (λ k d below due. on (get_or plan k d).id (differ k d below))
  where
    on : (id : ℕ) → placed.id ≢ id → (some : List JobRecord) (parts : List Part) (names : List (List ℕ))
        → Any (HasStarted now placed) some
        → Any (HasStarted now placed) (map (started_as now id parts names) some)
    on id other some parts names (k, job, inside, is, has) =
        let start = started_as now id parts names in
        let same : start job ≡ job = rw (ne_eqb job.id id (λ equal. other (sym has.id ∙ equal))) refl in (
          k,
          job,
          omega (arith, inside, length-map some start),
          get_or-map start some k job job inside ∙ ap start is
              ∙ same,
          has,
        )

-- a placement that is due has started with all that was planned for it; or it stays, and was held back
abbrev pub IsGiven : State → ℕ → List JobRecord → Started → Placed → Type 0
IsGiven s now before after placed =
    placed.start ≡ now
    → Any (HasStarted now placed) after.jobs
    ⊎ (Contains after.stays placed × WasHeldBack s now before after.starts placed.id)

given-behind : (s : State) (now : ℕ) (before : List JobRecord) (after : Started) (first placed : Placed)
    → IsGiven s now before after placed
    → IsGiven s now before (record after { stays = first ∷ after.stays }) placed
given-behind s now before after first placed given due = elim (given due) [
  | inl has ↦ inl has
  | inr (stands, held) ↦ inr ((suc stands.0, omega (arith, stands.1), stands.2), held)
]

given-after : (s : State) (now : ℕ) (before : List JobRecord) (after : Started) (start : JobStart) (placed : Placed)
    → IsGiven s now (begun now before start) after placed
    → IsGiven s now before (record after { starts = start ∷ after.starts }) placed
given-after s now before after start placed given due = elim (given due) [
  | inl has ↦ inl has
  | inr (stands, held) ↦
      inr (
        stands,
        record {
          before = suc held.before;
          some = omega (arith, held.some);
          waits = held.waits;
          reached =
              held.reached;
        },
      )
]

-- So each placement that is due is of a job that has started with all that was planned for it; or it stays, and was held
-- back.
pub all-given : StartLaws → (s : State) (jobs : List JobRecord) (plan : List Placed) → CanStart (beside s jobs) plan
    → All (IsGiven s s.moment jobs (started s s.moment jobs plan)) plan
unfolding started
all-given laws s jobs [] can =
    All-nil (IsGiven s s.moment jobs (record { jobs = jobs; starts = []; stays = [] }))
all-given laws s jobs (placed ∷ later) can =
    elim (cases_Bool (eqb placed.start s.moment && may_start s jobs placed.id)) [
      | inr stays ↦
          let rest = started s s.moment jobs later in
          let others = all-given laws s jobs later (can-later (beside s jobs) placed later can) in
          rw stays (All-cons (IsGiven s s.moment jobs (record rest { stays = placed ∷ rest.stays })) placed later
          (λ due. let held : may_start s jobs placed.id ≡ false = rw (eq-eqb placed.start s.moment due) at stays in
          inr (
            (zero, omega arith, refl),
            record {
              before = 0;
              some = omega arith;
              waits = (All-head (IsReady (beside s jobs)) placed later can.each).waits;
              reached =
                  held;
            },
          ))
          (λ k d below. given-behind s s.moment jobs rest placed (get_or later k d) (others k d below)))
      | inl goes ↦
          let due = (and_parts (eqb placed.start s.moment) (may_start s jobs placed.id) goes).0 in
          let start = start_of s.nodes jobs placed in
          let next = begun s.moment jobs start in
          let rest = started s s.moment next later in
          let apart = pairs-head (λ (one other : Placed). one.id ≢ other.id) placed later can.apart in
          let others = all-given laws s next later (can-begun laws (beside s jobs) placed later can due) in
          rw goes (All-cons (IsGiven s s.moment jobs (record rest { starts = start ∷ rest.starts })) placed later
          (λ now. inl (stays-given s s.moment next placed later apart
          (given-first (beside s jobs) placed later can due)))
          (λ k d below. given-after s s.moment jobs rest start (get_or later k d) (others k d below)))
    ]

-- each job that starts reached no limit beside what the jobs held just before
pub within-limits : (s : State) (now : ℕ) (jobs : List JobRecord) (plan : List Placed) (k : ℕ) (d : JobStart)
    → k < length (started s now jobs plan).starts
    → may_start s (fold (begun now) jobs (take k (started s now jobs plan).starts))
    (get_or (started s now jobs plan).starts k d).id ≡ true
unfolding started
within-limits s now jobs [] k d below = absurd (omega (arith, below))
within-limits s now jobs (placed ∷ later) zero d below =
    elim (cases_Bool (eqb placed.start now && may_start s jobs placed.id)) [
      | inl goes ↦ rw goes (and_parts (eqb placed.start now) (may_start s jobs placed.id) goes).1
      | inr stays ↦ rw stays (within-limits s now jobs later zero d (rw stays at below))
    ]
within-limits s now jobs (placed ∷ later) (suc k) d below =
    elim (cases_Bool (eqb placed.start now && may_start s jobs placed.id)) [
      | inl goes ↦
          let inside = rw goes at below in
          rw goes (within-limits s now (begun now jobs (start_of s.nodes jobs placed)) later k d
          (omega (arith, inside)))
      | inr stays ↦ rw stays (within-limits s now jobs later (suc k) d (rw stays at below))
    ]
