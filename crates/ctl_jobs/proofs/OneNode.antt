-- A job could run where one node has room for all its tasks.
use Rattle.std.proofs.Common.{◌≡◌, ℕ, ◌≤◌, zero, suc, Bool, true, false, ◌&&◌, not, leb, List, [], ◌∷◌, length, map, filter, Contains, get_or, arith, refl, ap, ◌∙◌, inl, inr, is_some}
use Rattle.std.specs.List.{list_any}
use Rattle.std.proofs.lemmas.Bool.{cases_Bool, and_parts, leb-true}
use Rattle.std.proofs.lemmas.List.Elements.{Contains-append_left, Contains-append_right}
use Rattle.std.proofs.lemmas.List.Sorted.{Contains-permutation}
use Rattle.resource_profile.specs.declared.NodeRoom.{NodeRoom}
use Rattle.resource_profile.specs.Free.{room_at}
use Rattle.plain_data.specs.declared.mem_ask.MemAsk.{MemAsk}
use Rattle.plain_data.specs.declared.mem_ask.MemAsk.TheVariants.{All as AllMem, PerNode, PerCpu}
use Rattle.backfill_planner.specs.declared.job.PlanJob.{PlanJob}
use Rattle.backfill_planner.specs.Giving.{asked_mem}
use Rattle.backfill_planner.specs.Plans.{placed_of}
use Rattle.backfill_planner.specs.OneNode.{AsksSomeMem, HasRoomForAll, MayBeOneNode}
use Rattle.node_state.specs.declared.record.NodeRecord.{NodeRecord}
use Rattle.node_state.specs.declared.partition_record.PartRecord.{PartRecord}
use Rattle.node_state.specs.declared.reservation_record.Reservation.{Reservation}
use Rattle.job_table.specs.declared.record.JobRecord.{JobRecord}
use Rattle.job_table.specs.declared.terms.Terms.{Terms}
use Rattle.ctl_state.specs.Laws.{OrderMoves}
use Rattle.ctl_state.specs.Planning.{are_there, is_at, is_taken_before, is_within, may_run, must_have, node_order, nodes_among, open_room, places_for, plan_job}
use Rattle.ctl_jobs.specs.OneNode.{MayBeOnOne, cpus_of_all, has_room, mem_on_one}
use Rattle.ctl_jobs.specs.Submission.{own_bounds}

-- the node at a place, at which the test gives true
record IsOne (test : NodeRecord → Bool) (nodes : List NodeRecord) (place : ℕ) : Type 0 where
  node : NodeRecord
  passes : test node ≡ true
  room : (d : NodeRoom) → get_or (map open_room nodes) place d ≡ open_room node
  others : (other : NodeRecord → Bool) → is_at other nodes place ≡ other node

one-there : (test : NodeRecord → Bool) (nodes : List NodeRecord) (place : ℕ) → is_at test nodes place ≡ true → IsOne test nodes place
one-there test [] place passes = absurd cc
one-there test (node ∷ nodes) zero passes = record { node = node; passes = passes; room = λ d. refl; others = λ other. refl }
one-there test (node ∷ nodes) (suc place) passes =
    let rest = one-there test nodes place passes in
    record { node = rest.node; passes = rest.passes; room = rest.room; others = rest.others }

-- an element that passes a test
record IsFound (test : ℕ → Bool) (xs : List ℕ) : Type 0 where
  element : ℕ
  there : Contains xs element
  passes : test element ≡ true

found : (test : ℕ → Bool) (xs : List ℕ) → list_any test xs ≡ true → IsFound test xs
found test [] any = absurd cc
found test (x ∷ xs) any = elim (cases_Bool (test x)) [
  | inl passes ↦ record { element = x; there = (0, omega arith, refl); passes = passes }
  | inr fails ↦
      let rest = found test xs (rw fails at any) in
      record { element = rest.element; there = Contains-append_right (x ∷ []) xs rest.element rest.there; passes = rest.passes }
]

kept : (test : ℕ → Bool) (xs : List ℕ) (x : ℕ) → test x ≡ true → Contains xs x → Contains (filter test xs) x
kept test [] x passes (k, below, is) = absurd (omega (arith, below))
kept test (y ∷ ys) x passes (zero, below, is) =
    let here : test y ≡ true = ap test is ∙ passes in
    rw here (0, omega arith, is)
kept test (y ∷ ys) x passes (suc k, below, is) =
    let rest = kept test ys x passes (k, omega (arith, below), is) in
    elim (cases_Bool (test y)) [
      | inl stays ↦ rw stays (Contains-append_right (y ∷ []) (filter test ys) x rest)
      | inr goes ↦ rw goes rest
    ]

-- a place at which a job may run that must have no nodes is one of its nodes
among : (nodes : List NodeRecord) (terms : Terms) (order : List ℕ) (place : ℕ) → terms.required ≡ [] → is_at (may_run terms) nodes place ≡ true → Contains order place → Contains (nodes_among nodes terms order) place
among nodes terms order place none may there =
    let places = filter (is_at (may_run terms) nodes) order in
    let must : ℕ → Bool = is_at (must_have terms) nodes in
    let rest : ℕ → Bool = λ place. not (must place) in
    let left = kept (is_at (may_run terms) nodes) order place may there in
    let known : are_there nodes terms places ≡ true = rw none refl in
    rw known (elim (cases_Bool (must place)) [
      | inl first ↦ Contains-append_left (filter must places) (filter rest places) place (kept must places place first left)
      | inr later ↦ Contains-append_right (filter must places) (filter rest places) place (kept rest places place (rw later refl) left)
    ])

mem-within : (ask : MemAsk) (room : NodeRoom) (cpus : ℕ) → mem_on_one ask cpus ≤ room.mem → asked_mem ask room cpus ≤ room.mem
mem-within AllMem room cpus within = omega arith
mem-within (PerNode asked) room cpus within = within
mem-within (PerCpu asked) room cpus within = within

-- what the planner promises of one node
abbrev OneIsEnough : Type 0
OneIsEnough = (rooms : List NodeRoom) (job : PlanJob) (node : ℕ) → job.barred ≡ [] → 1 ≤ job.cpus_per_task → AsksSomeMem job.mem_ask → MayBeOneNode job.need
    → Contains job.nodes node → HasRoomForAll (room_at rooms node) job → is_some (placed_of rooms [] job 0 0) ≡ true

pub one-could_run : OneIsEnough → OrderMoves ℕ → (nodes : List NodeRecord) (reservations : List Reservation) (partition : PartRecord) (job : JobRecord)
    → AsksSomeMem job.terms.mem → 1 ≤ job.terms.tasks → 1 ≤ job.terms.cpus_per_task → MayBeOnOne job.terms
    → list_any (is_at (has_room (cpus_of_all job.terms) (mem_on_one job.terms.mem (cpus_of_all job.terms)) job.terms) nodes) partition.nodes ≡ true
    → is_some (placed_of (map open_room nodes) [] (plan_job nodes partition (places_for nodes reservations partition job.terms.reservation) [] (own_bounds job.terms) job) 0 0) ≡ true
unfolding plan_job places_for node_order
one-could_run enough moves nodes reservations partition job some tasks each may any =
    let terms = job.terms in
    let cpus = cpus_of_all terms in
    let mem = mem_on_one terms.mem cpus in
    let is = found (is_at (has_room cpus mem terms) nodes) partition.nodes any in
    let one = one-there (has_room cpus mem terms) nodes is.element is.passes in
    let parts = and_parts (leb cpus one.node.conf.cpus) (leb mem one.node.conf.mem && may_run terms one.node) one.passes in
    let more = and_parts (leb mem one.node.conf.mem) (may_run terms one.node) parts.1 in
    let order = Contains-permutation partition.nodes (node_order nodes partition) is.element (moves (is_taken_before nodes) partition.nodes) is.there in
    let within = kept (is_within reservations terms.reservation) (node_order nodes partition) is.element (rw may.reservation refl) order in
    let here = among nodes terms (places_for nodes reservations partition terms.reservation) is.element may.required (one.others (may_run terms) ∙ more.1) within in
    enough (map open_room nodes) (plan_job nodes partition (places_for nodes reservations partition terms.reservation) [] (own_bounds terms) job) is.element
    refl each some
    (record { tasks = tasks; least = may.least; most = may.most; required = ap length may.required })
    here
    (rw (one.room (record { cpus = 0; mem = 0; usable = false })) (record {
      usable = refl;
      tasks = may.per_node;
      cpus = leb-true cpus one.node.conf.cpus parts.0;
      mem = mem-within terms.mem (open_room one.node) cpus (leb-true mem one.node.conf.mem more.0);
    }))
