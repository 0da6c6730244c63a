-- A new file that nothing stands against keeps all sound.
use Rattle.std.proofs.Common.{◌≡◌, ◌≢◌, ℕ, ◌+◌, ◌<◌, ◌≤◌, Bool, true, false, cond, eqb, leb, ltb, ◌&&◌, List, [], ◌∷◌, length, map, filter, flat_map, get_or, All, AllPairs, Contains, Option, Some, None, subst, refl, sym, ap, ◌∙◌, arith, rules, inl, inr}
use Rattle.std.specs.Prelude.{IfSome, nat_lt, slice_get, slice_index_or}
use Rattle.std.specs.List.{list_any, range_with_len}
use Rattle.std.proofs.lemmas.Bool.{cases_Bool, cond_both, leb-false, ltb-false, or_parts, eq-eqb}
use Rattle.std.proofs.lemmas.List.{get_or_default, length-map}
use Rattle.std.proofs.lemmas.List.Elements.{All-map}
use Rattle.std.proofs.lemmas.List.Folds.{flat_map-map, list_any_at}
use Rattle.std.proofs.lemmas.Option.{get_or_from_slice_get}
use Rattle.list_lemmas.proofs.Elements.{any-none}
use Rattle.plain_data.specs.Confs.{ConfView, IsOfNodes}
use Rattle.plain_data.specs.declared.conf.PartConf.{PartConf}
use Rattle.resource_profile.specs.declared.NodeRoom.{NodeRoom}
use Rattle.backfill_planner.specs.declared.Placed.{Placed}
use Rattle.node_state.specs.declared.record.NodeRecord.{NodeRecord}
use Rattle.node_state.specs.declared.partition_record.PartRecord.{PartRecord}
use Rattle.node_state.specs.declared.reservation_record.Reservation.{Reservation}
use Rattle.node_state.specs.Moving.{reservation_moved, row_moved, was_in}
use Rattle.node_state.specs.Nodes.{is_up}
use Rattle.node_state.specs.Renewing.{renewed, staying}
use Rattle.node_state.specs.Partitions.{IsOnNodes, opened}
use Rattle.node_state.specs.Reservations.{AreReservations, crosses, overlaps, shares}
use Rattle.job_table.specs.declared.record.JobRecord.{JobRecord}
use Rattle.job_table.specs.declared.record.Part.{Part}
use Rattle.job_table.specs.Changes.{is_on}
use Rattle.job_table.specs.JobStates.{is_pending}
use Rattle.job_table.specs.Table.{HaveRisingIds}
use Rattle.job_table.specs.Targets.{AreTogether}
use Rattle.ctl_state.specs.Holding.{IsHeldOnce, IsPartOf, OnNodesApart, cpus_of, has_members, mem_held, mem_of, parts_of}
use Rattle.ctl_state.specs.Planning.{room_of}
use Rattle.ctl_state.specs.Soundness.{AreOfPartitions, AreUp, HasItsParts, HasLimits, HasRanges, IsKept, IsOfAccounts, IsSound, IsWellRun, PlansPending, is_up_at, pending_ids}
use Rattle.ctl_state.specs.State.{State, last_moment, last_second}
use Rattle.ctl_state.specs.Verdicts.{stamped}
use Rattle.ctl_reconfigure.specs.Blocking.{blocked, blocking_node, blocking_partition, is_needed, is_too_small}
use Rattle.ctl_reconfigure.specs.Files.{HasPartLimits, IsFile}
use Rattle.ctl_reconfigure.specs.Names.{conf_names, line_names, new_place, node_names, partition_names}
use Rattle.ctl_reconfigure.specs.Reconfiguring.{job_after, keeps_places, nodes_after, origins, part_after, partitions_after, plan_after, reconfigured, reservations_after, settings_after, share_after}
use Rattle.ctl_reconfigure.proofs.Held.{held-moved}
use Rattle.ctl_reconfigure.proofs.Lists.{all-from_joined, flat_map-moved, pairs-mapped}
use Rattle.ctl_reconfigure.proofs.Places.{leads-back, nodes-sound, old_place, stays-as}
use Rattle.ctl_reconfigure.proofs.Rows.{in-both, passes-in, shares-from}
use Rattle.ctl_reconfigure.proofs.Unblocked.{HasLine, has-line, no-blocks, mapped-at, part-needs, partition-stands}

-- each partition of lines that name nodes once is on nodes that there are
abbrev pub OnNodes : Type 0
OnNodes = (nodes : List NodeRecord) (names : List (List ℕ)) (confs : List PartConf) → All (IsOfNodes names) confs
    → All (IsOnNodes (length nodes)) (map (opened nodes) confs)

-- the placement, of the same nodes
abbrev placed_after : State → ConfView → Placed → Placed
placed_after s conf placed = record placed { parts = map (share_after s conf) placed.parts }

-- ---- reservations

-- rows that share a new place shared the old one of its node
shared : (origins : List (Option ℕ)) (one other : List ℕ)
    → shares (row_moved origins one) (row_moved origins other) ≡ true → shares one other ≡ true
shared origins one other some =
    let (place, mine, theirs) = in-both (row_moved origins one) (row_moved origins other) some in
    let all = range_with_len 0 (length origins) in
    both (slice_index_or origins place None)
    (passes-in (λ place. was_in one (slice_index_or origins place None)) all place mine)
    (passes-in (λ place. was_in other (slice_index_or origins place None)) all place theirs)
  where
    both : (from : Option ℕ) → was_in one from ≡ true → was_in other from ≡ true → shares one other ≡ true
    both None mine theirs = absurd (let never = mine in cc)
    both (Some place) mine theirs = shares-from one other place mine theirs

apart-still : (origins : List (Option ℕ)) (one other : Reservation)
    → overlaps other.nodes other.start other.end one ≡ false
    → overlaps (row_moved origins other.nodes) other.start other.end (reservation_moved origins one) ≡ false
apart-still origins one other apart =
    none (crosses other.start other.end one) (shares one.nodes other.nodes)
    (shares (row_moved origins one.nodes) (row_moved origins other.nodes)) apart
    (shared origins one.nodes other.nodes)
  where
    none : (crosses was is : Bool) → (crosses && was) ≡ false → (is ≡ true → was ≡ true) → (crosses && is) ≡ false
    none false was is apart only = refl
    none true was false apart only = refl
    none true was true apart only = absurd (let shared = only refl in cc)

reservations-moved : (origins : List (Option ℕ)) (reservations : List Reservation) → AreReservations reservations
    → AreReservations (map (reservation_moved origins) reservations)
reservations-moved origins reservations are = record {
  each = All-map (λ (one : Reservation). one.start < one.end) (reservation_moved origins) reservations are.each;
  named = pairs-mapped (λ (one other : Reservation). one.name ≢ other.name) (reservation_moved origins) reservations
      are.named;
  apart = pairs-mapped (λ (one other : Reservation). overlaps other.nodes other.start other.end one ≡ false)
      (reservation_moved origins) reservations
      (λ i j d before below. apart-still origins (get_or reservations i d) (get_or reservations j d)
      (are.apart i j d before below));
  few = rw (length-map reservations (reservation_moved origins)) are.few;
}

pub reservations-sound : (s : State) (conf : ConfView) → AreReservations s.reservations
    → AreReservations (reservations_after s conf)
reservations-sound s conf are =
    cond_both (keeps_places s conf) s.reservations (map (reservation_moved (origins s conf)) s.reservations)
    AreReservations (λ kept. are) (λ other. reservations-moved (origins s conf) s.reservations are)

-- ---- parts

pub parts-after : (s : State) (conf : ConfView) (jobs : List JobRecord)
    → parts_of (map (job_after s conf) jobs) ≡ map (part_after s conf) (parts_of jobs)
parts-after s conf jobs =
    flat_map-map (λ (job : JobRecord). job.parts) (job_after s conf) jobs
    ∙ flat_map-moved (part_after s conf) (λ (job : JobRecord). job.parts) jobs

pub line-of_part : (s : State) (conf : ConfView) → IsSound s → blocking_node s conf ≡ None
    → All (λ (part : Part). (part.node < length s.nodes) × HasLine s conf part.node) (parts_of s.jobs)
line-of_part s conf sound none k d below =
    let inside : (get_or (parts_of s.jobs) k d).node < length s.nodes =
    rw (length-map s.nodes room_of) at ((sound.held.each k d below).node) in
    (inside, has-line s conf (get_or (parts_of s.jobs) k d).node none inside (part-needs s k d below))

pub returns-of : (s : State) (conf : ConfView) → IsSound s → blocking_node s conf ≡ None
    → All (λ (part : Part). old_place s conf (part_after s conf part).node ≡ part.node) (parts_of s.jobs)
returns-of s conf sound none k d below =
    let line = line-of_part s conf sound none k d below in
    leads-back s conf (get_or (parts_of s.jobs) k d).node sound.nodes.named line.0 line.1

-- what is held of a node is within what its new line has
within-line : (s : State) (moment : ℕ) (conf : ConfView) (part : Part) (k : ℕ) → IsSound s
    → k < length (parts_of s.jobs) → get_or (parts_of s.jobs) k part ≡ part
    → (part.node < length s.nodes) × HasLine s conf part.node
    → IsPartOf (map room_of (nodes_after s moment conf)) (part_after s conf part)
    × (mem_held (parts_of s.jobs) part.node ≤ mem_of (map room_of (nodes_after s moment conf)) (part_after s conf part).node)
within-line s moment conf part k sound below is (inside, line) =
    let now = new_place (node_names s.nodes) (conf_names conf.nodes) part.node in
    let node = stays-as s moment conf part.node sound.nodes.named inside line in
    let room : get_or (map room_of (nodes_after s moment conf)) now (record { cpus = 0; mem = 0; usable = false })
    ≡ room_of (staying line.line line.node) =
    get_or_from_slice_get (map room_of (nodes_after s moment conf)) now (room_of (staying line.line line.node)) _
    (mapped-at room_of (nodes_after s moment conf) now (staying line.line line.node) node) in
    let small = or_parts
    (list_any (λ (one : Part). is_on part.node one && list_any (λ cpu. leb line.line.cpus cpu) one.cpus) (parts_of s.jobs))
    (ltb line.line.mem (mem_held (parts_of s.jobs) part.node)) line.fits in
    let old = rw is at (sound.held.each k part below) in
    let fits = rw is at (any-none (λ (one : Part). is_on part.node one && list_any (λ cpu. leb line.line.cpus cpu) one.cpus)
    (parts_of s.jobs) small.0 k part below) in
    let large : list_any (λ cpu. leb line.line.cpus cpu) part.cpus ≡ false =
    second (is_on part.node part) (list_any (λ cpu. leb line.line.cpus cpu) part.cpus) (eq-eqb part.node part.node refl) fits in
    let cpus : All (λ cpu. cpu < line.line.cpus) part.cpus =
    λ i e under. leb-false line.line.cpus (get_or part.cpus i e)
    (any-none (λ cpu. leb line.line.cpus cpu) part.cpus large i e under) in
    let there : now < length (nodes_after s moment conf) =
    rw (length-map conf.nodes (renewed s.nodes s.dropped moment)) line.inside in (
      record {
        node = rw (length-map (nodes_after s moment conf) room_of) there;
        rising = old.rising;
        cpus = subst (λ bound. All (λ cpu. cpu < bound) part.cpus) (sym (ap (λ (room : NodeRoom). room.cpus) room)) cpus;
      },
      subst (λ bound. mem_held (parts_of s.jobs) part.node ≤ bound) (sym (ap (λ (room : NodeRoom). room.mem) room))
          (ltb-false line.line.mem (mem_held (parts_of s.jobs) part.node) small.1),
    )
  where
    second : (b c : Bool) → b ≡ true → (b && c) ≡ false → c ≡ false
    second true c is fails = fails
    second false c is fails = absurd (let never = is in cc)

pub held-after : (s : State) (moment : ℕ) (conf : ConfView) → IsSound s → blocking_node s conf ≡ None
    → IsHeldOnce (map room_of (nodes_after s moment conf)) (parts_of (map (job_after s conf) s.jobs))
held-after s moment conf sound none =
    let parts = parts_of s.jobs in
    let both : (k : ℕ) (d : Part) → k < length parts
    → IsPartOf (map room_of (nodes_after s moment conf)) (part_after s conf (get_or parts k d))
    × (mem_held parts (get_or parts k d).node
    ≤ mem_of (map room_of (nodes_after s moment conf)) (part_after s conf (get_or parts k d)).node) =
    λ k d below. within-line s moment conf (get_or parts k d) k sound below
    (get_or_default parts k (get_or parts k d) d below) (line-of_part s conf sound none k d below) in
    rw (parts-after s conf s.jobs) (held-moved (map room_of s.nodes) (map room_of (nodes_after s moment conf))
    (new_place (node_names s.nodes) (conf_names conf.nodes)) (old_place s conf) parts sound.held
    (returns-of s conf sound none) (λ k d below. (both k d below).0) (λ k d below. (both k d below).1))

pub up-after : (s : State) (moment : ℕ) (conf : ConfView) → IsSound s → blocking_node s conf ≡ None
    → AreUp (nodes_after s moment conf) (parts_of (map (job_after s conf) s.jobs))
up-after s moment conf sound none =
    rw (parts-after s conf s.jobs)
    (All-map (λ (part : Part). is_up_at (nodes_after s moment conf) part.node ≡ true) (part_after s conf)
    (parts_of s.jobs) (λ k d below.
    let part = get_or (parts_of s.jobs) k d in
    let line = line-of_part s conf sound none k d below in
    let was : is_up line.1.node.down ≡ true = rw line.1.was at (sound.up k d below) in
    rw (stays-as s moment conf part.node sound.nodes.named line.0 line.1) was))

-- ---- jobs

members-mapped : (f : Part → Part) (parts : List Part) → has_members (map f parts) ≡ has_members parts
members-mapped f [] = refl
members-mapped f (part ∷ parts) = refl

kept-after : (s : State) (moment : ℕ) (conf : ConfView) (job : JobRecord) → s.moment ≤ moment
    → All (λ (part : Part). old_place s conf (part_after s conf part).node ≡ part.node) job.parts
    → IsKept s.moment job → IsKept moment (job_after s conf job)
kept-after s moment conf job later returns kept =
    let run = runs-on kept.run in
    let apart : OnNodesApart (map (part_after s conf) job.parts) =
    pairs-mapped (λ (one other : Part). one.node ≢ other.node) (part_after s conf) job.parts
    (λ i j d before below same. kept.parts.apart i j d before below
    (sym (returns i d (omega (arith, before, below))) ∙ ap (old_place s conf) same ∙ returns j d below)) in
    record {
      terms = kept.terms;
      limit = kept.limit;
      run = run;
      parts = record { some = members-mapped (part_after s conf) job.parts ∙ kept.parts.some; apart = apart };
    }
  where
    runs-on : IsWellRun s.moment job → IsWellRun moment (job_after s conf job)
    runs-on run = record {
      submitted = omega (arith, run.submitted, later);
      eligible = run.eligible;
      started = run.started;
      ended = run.ended;
      start_passed = omega (arith, run.start_passed, later);
      end_passed = omega (arith, run.end_passed, later);
      in_order = run.in_order;
      final = run.final;
    }

waiting-after : (s : State) (conf : ConfView) (jobs : List JobRecord)
    → pending_ids (map (job_after s conf) jobs) ≡ pending_ids jobs
waiting-after s conf [] = refl
waiting-after s conf (job ∷ jobs) = elim (cases_Bool (is_pending job.state)) [
  | inl waits ↦ rw waits (ap (λ ids. job.id ∷ ids) (waiting-after s conf jobs))
  | inr other ↦ rw other (waiting-after s conf jobs)
]

plan-after : (s : State) (conf : ConfView) → PlansPending s.jobs s.plan
    → PlansPending (map (job_after s conf) s.jobs) (plan_after s conf)
plan-after s conf plans = record {
  pending = rw (waiting-after s conf s.jobs)
      (All-map (λ (placed : Placed). Contains (pending_ids s.jobs) placed.id) (placed_after s conf) s.plan plans.pending);
  once = pairs-mapped (λ (one other : Placed). one.id ≢ other.id) (placed_after s conf) s.plan plans.once;
  last = All-map (λ (placed : Placed). placed.start ≤ last_second) (placed_after s conf) s.plan plans.last;
}

of_partitions-after : (s : State) (moment : ℕ) (conf : ConfView) → IsSound s → blocking_partition s conf ≡ None
    → AreOfPartitions (partitions_after s moment conf) (map (job_after s conf) s.jobs)
of_partitions-after s moment conf sound none =
    All-map (λ (job : JobRecord). job.partition < length (partitions_after s moment conf)) (job_after s conf) s.jobs
    (λ k d below.
    let place = (get_or s.jobs k d).partition in
    let used = list_any_at (λ (job : JobRecord). eqb job.partition place) s.jobs k d below (eq-eqb place place refl) in
    rw (length-map conf.partitions (opened (nodes_after s moment conf)))
    (partition-stands s conf place none (sound.of_partitions k d below) used).0)

-- ---- all

pub sound-after : OnNodes → (s : State) (moment : ℕ) (conf : ConfView) → IsSound s → s.moment ≤ moment → moment ≤ last_moment
    → IsFile conf → blocked s conf ≡ None → IsSound (stamped moment (reconfigured s moment conf))
sound-after on_nodes s moment conf sound later in_time file none =
    let blocks = no-blocks s conf none in
    let nodes = nodes_after s moment conf in
    let change = job_after s conf in
    let ranges : HasRanges (settings_after s.settings conf.settings) =
    record { window = file.settings.window; age = file.settings.age } in
    let limits : All HasLimits (partitions_after s moment conf) =
    All-map HasLimits (opened nodes) conf.partitions
    (λ k d below. let line = file.limits k d below in record { longest = line.longest; unasked = line.unasked }) in
    let accounts : All (IsOfAccounts s.assocs s.qos) (map change s.jobs) =
    All-map (IsOfAccounts s.assocs s.qos) change s.jobs
    (λ k d below. let of = sound.of_accounts k d below in record { assoc = of.assoc; qos = of.qos }) in
    let returns = all-from_joined (λ (part : Part). old_place s conf (part_after s conf part).node ≡ part.node)
    (λ (job : JobRecord). job.parts) s.jobs (returns-of s conf sound blocks.0) in
    record {
      settings = ranges;
      nodes = nodes-sound s moment conf file;
      partitions = on_nodes nodes (conf_names conf.nodes) conf.partitions file.whole.of_nodes;
      limits = limits;
      of_partitions = of_partitions-after s moment conf sound blocks.1;
      of_accounts = accounts;
      usage = sound.usage;
      reservations = reservations-sound s conf sound.reservations;
      rising = pairs-mapped (λ (one other : JobRecord). one.id < other.id) change s.jobs sound.rising;
      below_next = All-map (λ (job : JobRecord). job.id < s.next_id) change s.jobs sound.below_next;
      together = record {
        after = All-map (λ (job : JobRecord). IfSome job.array (λ array. array ≤ job.id)) change s.jobs
            sound.together.after;
        together = pairs-mapped
            (λ (one other : JobRecord). IfSome other.array (λ array. array ≤ one.id → one.array ≡ Some array))
            change s.jobs sound.together.together;
      };
      next = sound.next;
      size = sound.size;
      accepts = sound.accepts;
      moment = in_time;
      jobs = All-map (IsKept moment) change s.jobs
          (λ k d below. kept-after s moment conf (get_or s.jobs k d) later (returns k d below) (sound.jobs k d below));
      held = held-after s moment conf sound blocks.0;
      up = up-after s moment conf sound blocks.0;
      plan = plan-after s conf sound.plan;
    }
