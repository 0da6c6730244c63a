-- What parts hold of a node's processors: how many, and which are free.
use Rattle.std.proofs.lemmas.Bool.Decides.{nat_tests}
use Rattle.std.proofs.Common.{◌≡◌, ℕ, ◌+◌, ◌≤◌, ◌<◌, Bool, true, cond, eqb, List, length, filter, get_or, sum_by, All, AllPairs, refl, arith, inl, inr}
use Rattle.std.specs.List.{range_with_len}
use Rattle.std.proofs.lemmas.Bool.{cases_Bool, eqb-true}
use Rattle.std.proofs.lemmas.List.Elements.{All-filter, All-weaker, filter_passes}
use Rattle.std.proofs.lemmas.List.FromFn.{length-range_with_len}
use Rattle.std.proofs.lemmas.List.Kept.{AllPairs-filter}
use Rattle.std.proofs.lemmas.List.Sums.{length-filter}
use Rattle.resource_profile.specs.declared.NodeRoom.{NodeRoom}
use Rattle.job_table.specs.declared.record.Part.{Part}
use Rattle.job_table.specs.Changes.{is_on}
use Rattle.ctl_state.specs.Holding.{cpus_of, has_cpu, times_held, free_ids, IsPartOf}
use Rattle.ctl_pass.proofs.Lists.{sum_by-ones, range-rises, range-below, range-rising}
use Rattle.list_lemmas.proofs.Sums.{sum_by-add, sum_by-none, sum_by-same, sum_by-swap}

-- how many processors of the node the parts hold, each as often as it stands in them; and how many one part has
pub cpus_held : List NodeRoom → List Part → ℕ → ℕ
cpus_held rooms parts node = sum_by (λ cpu. times_held parts node cpu) (range_with_len 0 (cpus_of rooms node))

abbrev pub cpus_in : ℕ → Part → ℕ
cpus_in node part = cond (is_on node part) (length part.cpus) 0

pub held-counted : (rooms : List NodeRoom) (parts : List Part) (node : ℕ) → All (IsPartOf rooms) parts
    → cpus_held rooms parts node ≡ sum_by (cpus_in node) parts
unfolding cpus_held times_held
held-counted rooms parts node are =
    let cpus = range_with_len 0 (cpus_of rooms node) in
    let has : ℕ → Part → ℕ = λ cpu part. cond (has_cpu node cpu part) 1 0 in
    let counted = sum_by-same (λ part. sum_by (λ cpu. has cpu part) cpus) (cpus_in node) parts (λ k d below. let part =
    get_or parts k d in elim (cases_Bool (is_on node part)) [
      | inr off ↦ rw off (sum_by-none (λ cpu. 0) cpus (λ i e within. refl))
      | inl on ↦ rw on (range-rising part.cpus (cpus_of rooms node) (are k d below).rising
          (rw (← eqb-true part.node node on) (are k d below).cpus))
    ]) in
    omega (arith, sum_by-swap has cpus parts, counted)

-- what is held grows by what more parts have
pub held-grown : (rooms : List NodeRoom) (before more after : List Part) (node : ℕ)
    → ((cpu : ℕ) → times_held after node cpu ≡ times_held before node cpu + times_held more node cpu)
    → cpus_held rooms after node ≡ cpus_held rooms before node + cpus_held rooms more node
unfolding cpus_held
held-grown rooms before more after node grows =
    let cpus = range_with_len 0 (cpus_of rooms node) in
    let split = sum_by-add (λ cpu. times_held before node cpu) (λ cpu. times_held more node cpu) cpus in
    omega (
      arith,
      sum_by-same (λ cpu. times_held after node cpu)
          (λ cpu. times_held before node cpu + times_held more node cpu) cpus (λ k d below. grows _),
      split,
    )

-- each processor of a node is free or in a part
pub free-counted : (rooms : List NodeRoom) (parts : List Part) (node : ℕ) → ((cpu : ℕ) → times_held parts node cpu ≤ 1)
    → length (free_ids rooms parts node) + cpus_held rooms parts node ≡ cpus_of rooms node
unfolding cpus_held free_ids
free-counted rooms parts node once =
    let cpus = range_with_len 0 (cpus_of rooms node) in
    let is_free : ℕ → Bool = λ cpu. eqb (times_held parts node cpu) 0 in
    let split = sum_by-add (λ cpu. cond (is_free cpu) 1 0) (λ cpu. times_held parts node cpu) cpus in
    let each = sum_by-same (λ cpu. cond (is_free cpu) 1 0 + times_held parts node cpu) (λ cpu. 1) cpus
    (λ k d below. let few = once (get_or cpus k d) in grind (arith, nat_tests, few)) in
    omega (
      arith,
      split,
      each,
      sum_by-ones cpus,
      length-range_with_len 0 (cpus_of rooms node),
      length-filter is_free cpus,
    )

-- the free processors rise, are the node's, and stand in no part
pub free-are : (rooms : List NodeRoom) (parts : List Part) (node : ℕ)
    → AllPairs (λ one other. one < other) (free_ids rooms parts node)
    × All (λ cpu. cpu < cpus_of rooms node) (free_ids rooms parts node)
    × All (λ cpu. times_held parts node cpu ≡ 0) (free_ids rooms parts node)
unfolding free_ids
free-are rooms parts node =
    let cpus = range_with_len 0 (cpus_of rooms node) in
    let is_free : ℕ → Bool = λ cpu. eqb (times_held parts node cpu) 0 in (
      AllPairs-filter (λ one other. one < other) is_free cpus (range-rises (cpus_of rooms node)),
      All-filter is_free (λ cpu. cpu < cpus_of rooms node) cpus (range-below (cpus_of rooms node)),
      All-weaker (λ cpu. is_free cpu ≡ true) (λ cpu. times_held parts node cpu
          ≡ 0) (λ cpu free. eqb-true (times_held parts node cpu) 0 free) (filter is_free cpus)
          (filter_passes is_free cpus),
    )
