-- What is held of a node is within it, and the nodes of a partition have few processors.
use Rattle.std.proofs.Common.{◌≡◌, ◌≢◌, ℕ, zero, suc, ◌+◌, ◌≤◌, ◌<◌, Bool, cond, eqb, false, List, [], ◌∷◌, length, sum_by, get_or, map, All, AllPairs, refl, ap, arith, inl, inr}
use Rattle.std.specs.List.{list_any, range_with_len}
use Rattle.std.proofs.lemmas.Bool.{cases_Bool, eqb-true, ne_eqb}
use Rattle.std.proofs.lemmas.Bool.Decides.{nat_tests}
use Rattle.std.proofs.lemmas.List.{get_or-map}
use Rattle.std.proofs.lemmas.List.Elements.{All-head, All-tail}
use Rattle.std.proofs.lemmas.List.Folds.{list_any_none}
use Rattle.std.proofs.lemmas.List.FromFn.{length-range_with_len}
use Rattle.std.proofs.lemmas.List.Sums.{sum_by-cons, sum_by-le}
use Rattle.resource_profile.specs.declared.NodeRoom.{NodeRoom}
use Rattle.node_state.specs.declared.record.NodeRecord.{NodeRecord}
use Rattle.job_table.specs.declared.record.Part.{Part}
use Rattle.job_table.specs.Changes.{is_on}
use Rattle.ctl_state.specs.Holding.{IsPartOf, cpus_of, has_cpu, mem_held, parts_of, times_held}
use Rattle.ctl_state.specs.Planning.{room_of}
use Rattle.ctl_state.specs.State.{State}
use Rattle.ctl_state.specs.Soundness.{IsNode, IsSound}
use Rattle.ctl_show.specs.Records.{cpus_at}
use Rattle.ctl_show.specs.Standing.{cpus_in, cpus_held}
use Rattle.list_lemmas.proofs.Pairs.{pairs-head, pairs-tail}
use Rattle.list_lemmas.proofs.Sums.{sum_by-add as sum-add, sum_by-same as sum-same, sum_by-swap as sum-swap}
use Rattle.list_lemmas.proofs.Ranges.{range-within}

-- larger terms have larger sums, and equal terms equal ones
sum-none : {X : Type 0} (xs : List X) → sum_by (λ x. 0) xs ≡ 0
sum-none [] = refl
sum-none (x ∷ xs) = omega (arith, sum_by-cons (λ y. 0) x xs, sum-none xs)

-- the numbers below a bound that stand in a list of different ones are as many as it has, where all its numbers are
-- below the bound
distinct-counted : (xs : List ℕ) (bound : ℕ) → AllPairs (λ one other. one ≢ other) xs → All (λ x. x < bound) xs
    → sum_by (λ number. cond (list_any (λ x. eqb x number) xs) 1 0) (range_with_len 0 bound) ≡ length xs
distinct-counted [] bound apart below = sum-none (range_with_len 0 bound)
distinct-counted (x ∷ xs) bound apart below =
    let rest = distinct-counted xs bound (pairs-tail (λ one other. one ≢ other) x xs apart)
    (All-tail (λ y. y < bound) x xs below) in
    let first = range-within x 0 bound (omega arith) (omega (arith, All-head (λ y. y < bound) x xs below)) in
    let split = sum-add (λ number. cond (eqb x number) 1 0) (λ number. cond (list_any (λ y. eqb y number) xs) 1 0)
    (range_with_len 0 bound) in
    let others = pairs-head (λ one other. one ≢ other) x xs apart in
    let each = sum-same (λ number. cond (list_any (λ y. eqb y number) (x ∷ xs)) 1 0)
    (λ number. cond (eqb x number) 1 0 + cond (list_any (λ y. eqb y number) xs) 1 0)
    (range_with_len 0 bound) (λ i e within.
    let number = get_or (range_with_len 0 bound) i e in
    let none : x ≡ number → list_any (λ y. eqb y number) xs ≡ false = λ is.
    list_any_none (λ y. eqb y number) xs (λ k d inside.
    ne_eqb (get_or xs k d) number (λ same. others k d inside (omega (arith, is, same)))) in
    grind (arith, nat_tests, none)) in
    omega (arith, rest, first, split, each)

-- a sum over the numbers below a bound, of terms that are 1 at most, is at most the bound
range-few : (f : ℕ → ℕ) (bound : ℕ) → ((number : ℕ) → f number ≤ 1) → sum_by f (range_with_len 0 bound) ≤ bound
range-few f bound few =
    omega (
      arith,
      sum_by-le f 1 (range_with_len 0 bound) (λ k d below. few (get_or (range_with_len 0 bound) k d)),
      length-range_with_len 0 bound,
    )

one-or-none : (b : Bool) → cond b 1 0 ≤ 1
one-or-none b = grind arith

-- different numbers below a bound are at most as many
distinct-few : (xs : List ℕ) (bound : ℕ) → AllPairs (λ one other. one ≢ other) xs → All (λ x. x < bound) xs
    → length xs ≤ bound
distinct-few xs bound apart below =
    omega (
      arith,
      distinct-counted xs bound apart below,
      range-few (λ number. cond (list_any (λ x. eqb x number) xs) 1 0) bound
          (λ number. one-or-none (list_any (λ x. eqb x number) xs)),
    )

-- no more processors of a node are held than it has, where none stands in two parts
pub cpus-within : (rooms : List NodeRoom) (parts : List Part) (node : ℕ) → All (IsPartOf rooms) parts
    → ((cpu : ℕ) → times_held parts node cpu ≤ 1) → cpus_held parts node ≤ cpus_of rooms node
unfolding times_held cpus_held
cpus-within rooms parts node are once =
    let cpus = range_with_len 0 (cpus_of rooms node) in
    let has : ℕ → Part → ℕ = λ cpu part. cond (has_cpu node cpu part) 1 0 in
    let counted = sum-same (λ part. sum_by (λ cpu. has cpu part) cpus) (cpus_in node) parts (λ k d below. let part =
    get_or parts k d in elim (cases_Bool (is_on node part)) [
      | inr off ↦ rw off (sum-none cpus)
      | inl on ↦ rw on (distinct-counted part.cpus (cpus_of rooms node)
          (λ i j e before inside same. omega (arith, (are k d below).rising i j e before inside, same))
          (rw (← eqb-true part.node node on) (are k d below).cpus))
    ]) in
    omega (arith, sum-swap has cpus parts, counted, range-few (times_held parts node) (cpus_of rooms node) once)

-- what a sound state holds of a node is few
pub node-within : (s : State) (place : ℕ) (node : NodeRecord) → IsSound s → place < length s.nodes
    → (cpus_held (parts_of s.jobs) place ≤ 1024) × (mem_held (parts_of s.jobs) place ≤ 16777216)
node-within s place node sound inside =
    let rooms = map room_of s.nodes in
    let none : NodeRoom = record { cpus = 0; mem = 0; usable = false } in
    let room = get_or-map room_of s.nodes place node none inside in
    let ranges = sound.nodes.each place node inside in
    let held = cpus-within rooms (parts_of s.jobs) place sound.held.each (sound.held.once place) in
    let mem = sound.held.mem place in (
      omega (arith, held, ap (λ (room : NodeRoom). room.cpus) room, ranges.cpus.1),
      omega (arith, mem, ap (λ (room : NodeRoom). room.mem) room, ranges.mem.1),
    )

-- a node has few processors
cpus-few : (nodes : List NodeRecord) (place : ℕ) → All IsNode nodes → cpus_at nodes place ≤ 1024
cpus-few [] place each = omega arith
cpus-few (node ∷ nodes) zero each = (All-head IsNode node nodes each).cpus.1
cpus-few (node ∷ nodes) (suc place) each = cpus-few nodes place (All-tail IsNode node nodes each)

-- different nodes have few processors
pub all-cpus-few : (nodes : List NodeRecord) (places : List ℕ) → length nodes ≤ 1024 → All IsNode nodes
    → AllPairs (λ one other. one ≢ other) places → All (λ place. place < length nodes) places
    → sum_by (cpus_at nodes) places ≤ 1048576
all-cpus-few nodes places few each apart there =
    omega (
      arith,
      few,
      distinct-few places (length nodes) apart there,
      sum_by-le (cpus_at nodes) 1024 places (λ k d below. cpus-few nodes (get_or places k d) each),
    )
