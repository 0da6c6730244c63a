-- Running jobs hold no more processors than there are.
use Rattle.std.proofs.Common.{◌≡◌, ℕ, zero, suc, ◌≤◌, Bool, cond, List, [], ◌∷◌, length, map, sum_by, get_or, nat_eq, All, arith, inl, inr, ◌∙◌, refl}
use Rattle.std.specs.List.{range_with_len}
use Rattle.std.proofs.lemmas.Bool.{cases_Bool, eqb-true}
use Rattle.std.proofs.lemmas.List.{length-map}
use Rattle.std.proofs.lemmas.List.Concat.{flat_map-cons}
use Rattle.std.proofs.lemmas.List.Elements.{All-head, All-tail}
use Rattle.std.proofs.lemmas.List.Sums.{sum_by-cons, sum_by-append}
use Rattle.resource_profile.specs.declared.NodeRoom.{NodeRoom}
use Rattle.node_state.specs.declared.record.NodeRecord.{NodeRecord}
use Rattle.job_table.specs.declared.record.Part.{Part}
use Rattle.job_table.specs.declared.record.JobRecord.{JobRecord}
use Rattle.job_table.specs.Changes.{is_on}
use Rattle.job_table.specs.JobStates.{is_running}
use Rattle.job_table.specs.Usage.{cpus_held}
use Rattle.ctl_state.specs.Holding.{IsPartOf, cpus_of, has_cpu, parts_of, times_held}
use Rattle.ctl_state.specs.Planning.{room_of}
use Rattle.ctl_state.specs.State.{State}
use Rattle.ctl_state.specs.Soundness.{IsNode, IsSound}
use Rattle.sacct_book.specs.Running.{cpus_run_by, cpus_running}
use Rattle.list_lemmas.proofs.Sums.{sum_by-none, sum_by-same, sum_by-swap}
use Rattle.sacct_book.proofs.Counting.{distinct-counted, range-few, range-within}

-- how many processors of the node the part has
abbrev on-node : ℕ → Part → ℕ
on-node node part = cond (is_on node part) (length part.cpus) 0

-- no more processors of a node are held than it has, where none stands in two parts
cpus-within : (rooms : List NodeRoom) (parts : List Part) (node : ℕ) → All (IsPartOf rooms) parts
    → ((cpu : ℕ) → times_held parts node cpu ≤ 1) → sum_by (on-node node) parts ≤ cpus_of rooms node
unfolding times_held
cpus-within rooms parts node are once =
    let cpus = range_with_len 0 (cpus_of rooms node) in
    let has : ℕ → Part → ℕ = λ cpu part. cond (has_cpu node cpu part) 1 0 in
    let counted = sum_by-same (λ part. sum_by (λ cpu. has cpu part) cpus) (on-node node) parts (λ k d below. let part =
    get_or parts k d in elim (cases_Bool (is_on node part)) [
      | inr off ↦ rw off (sum_by-none (λ cpu. 0) cpus (λ k d below. refl))
      | inl on ↦ rw on (distinct-counted part.cpus (cpus_of rooms node)
          (λ i j e before inside same. omega (arith, (are k d below).rising i j e before inside, same))
          (rw (← eqb-true part.node node on) (are k d below).cpus))
    ]) in
    omega (
      arith,
      sum_by-swap has cpus parts,
      counted,
      range-few (times_held parts node) 1 (cpus_of rooms node) (λ cpu below. once cpu),
    )

-- all that is held, node by node
by-nodes : (rooms : List NodeRoom) (parts : List Part) → All (IsPartOf rooms) parts
    → sum_by (λ node. sum_by (on-node node) parts) (range_with_len 0 (length rooms))
    ≡ sum_by (λ (part : Part). length part.cpus) parts
by-nodes rooms parts are =
    sum_by-swap on-node (range_with_len 0 (length rooms)) parts
    ∙ sum_by-same (λ part. sum_by (λ node. on-node node part) (range_with_len 0 (length rooms)))
    (λ (part : Part). length part.cpus) parts
    (λ k d below.
    let part = get_or parts k d in
    range-within (length part.cpus) part.node 0 (length rooms) (omega arith) (omega (arith, (are k d below).node)))

-- a node has few processors
room-few : (nodes : List NodeRecord) (place : ℕ) → All IsNode nodes → cpus_of (map room_of nodes) place ≤ 1024
room-few [] place each = omega arith
room-few (node ∷ nodes) zero each = (All-head IsNode node nodes each).cpus.1
room-few (node ∷ nodes) (suc place) each = room-few nodes place (All-tail IsNode node nodes each)

held-few : (s : State) → IsSound s → sum_by (λ (part : Part). length part.cpus) (parts_of s.jobs) ≤ 1048576
held-few s sound =
    let rooms = map room_of s.nodes in
    let parts = parts_of s.jobs in
    omega (
      arith,
      by-nodes rooms parts sound.held.each,
      length-map s.nodes room_of,
      sound.nodes.named.few,
      range-few (λ node. sum_by (on-node node) parts) 1024 (length rooms) (λ node inside.
          omega (
            arith,
            cpus-within rooms parts node sound.held.each (sound.held.once node),
            room-few s.nodes node sound.nodes.each,
          )),
    )

-- what is counted of a job is at most what it holds
counted-held : (job : JobRecord) (place : ℕ) → cond (nat_eq job.assoc place) (cpus_running job) 0 ≤ cpus_held job
unfolding cpus_running
counted-held job place = by (nat_eq job.assoc place) (is_running job.state)
  where
    by : (own runs : Bool) → cond own (cond runs (cpus_held job) 0) 0 ≤ cpus_held job
    by own runs = grind arith

running-held : (jobs : List JobRecord) (place : ℕ)
    → cpus_run_by jobs place ≤ sum_by (λ (part : Part). length part.cpus) (parts_of jobs)
unfolding cpus_run_by
running-held [] place = omega arith
running-held (job ∷ jobs) place =
    rw (flat_map-cons (λ (one : JobRecord). one.parts) job jobs)
    (omega (
      arith,
      counted-held job place,
      running-held jobs place,
      sum_by-cons (λ (one : JobRecord). cond (nat_eq one.assoc place) (cpus_running one) 0) job jobs,
      sum_by-append (λ (part : Part). length part.cpus) job.parts (parts_of jobs),
    ))

-- the running jobs of an association hold at most as many processors as there are
pub running-few : (s : State) (place : ℕ) → IsSound s → cpus_run_by s.jobs place ≤ 1048576
running-few s place sound = omega (arith, running-held s.jobs place, held-few s sound)
