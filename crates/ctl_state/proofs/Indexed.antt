-- The index of what is held goes on showing it.
use Rattle.std.proofs.Common.{◌≡◌, ℕ, ◌+◌, ◌<◌, ◌≤◌, Bool, true, not, ◌&&◌, ◌||◌, eqb, List, [], ◌∷◌, ◌++◌, length, map, All, Contains, get_or, refl, ap, ◌∙◌, arith, inl, inr}
use Rattle.std.specs.Prelude.{nat_lt, count_by}
use Rattle.std.specs.List.{list_any}
use Rattle.std.proofs.lemmas.Bool.{cases_Bool, eq-eqb}
use Rattle.std.proofs.lemmas.Bool.Decides.{nat_tests}
use Rattle.std.proofs.lemmas.List.Elements.{All-head, All-tail}
use Rattle.std.proofs.lemmas.List.Folds.{list_any_at}
use Rattle.std.proofs.lemmas.List.Sums.{get_or-le-sum_by}
use Rattle.node_state.specs.declared.record.Held.{Held}
use Rattle.node_state.specs.Held.{held_mem, holds_cpu}
use Rattle.job_table.specs.declared.record.Part.{Part}
use Rattle.job_table.specs.declared.record.JobRecord.{JobRecord}
use Rattle.ctl_state.specs.State.{State}
use Rattle.ctl_state.specs.Holding.{has_cpu, mem_held, mem_in, parts_of, times_held}
use Rattle.ctl_state.specs.Index.{GivesParts, ShowsParts, TakesParts}
use Rattle.ctl_state.specs.Events.{started_as, those_left}
use Rattle.ctl_state.specs.Soundness.{IsSound, pending_ids}
use Rattle.ctl_state.proofs.Held.{cpu_in}
use Rattle.ctl_state.proofs.Taken.{mem-taken, times-taken}
use Rattle.list_lemmas.proofs.Sums.{count-cons}

-- a processor stands in one of the parts where it is held
any-counted : {X : Type 0} (p : X → Bool) (xs : List X) → list_any p xs ≡ nat_lt 0 (count_by p xs)
any-counted p [] = refl
any-counted p (x ∷ xs) = grind (arith, nat_tests, count-cons p x xs, any-counted p xs)

any-held : (node cpu : ℕ) (parts : List Part)
    → list_any (has_cpu node cpu) parts ≡ nat_lt 0 (times_held parts node cpu)
unfolding times_held
any-held node cpu parts = any-counted (has_cpu node cpu) parts

-- what is held once more is held, and what was held once is held no more
one-more : (before taken : ℕ) → (nat_lt 0 before || nat_lt 0 taken) ≡ nat_lt 0 (before + taken)
one-more before taken = grind (arith, nat_tests)

one-less : (left gone : ℕ) → left + gone ≤ 1 → (nat_lt 0 (left + gone) && not (nat_lt 0 gone)) ≡ nat_lt 0 left
one-less left gone once = grind (arith, nat_tests)

pub taking-shows : (s : State) (now id : ℕ) (parts : List Part) (names : List (List ℕ)) (held after : List Held)
    → IsSound s → Contains (pending_ids s.jobs) id
    → ShowsParts held (parts_of s.jobs) → TakesParts held parts after
    → ShowsParts after (parts_of (map (started_as now id parts names) s.jobs))
taking-shows s now id parts names held after sound waits shows takes = record {
  cpus = λ node cpu.
      rw (
        takes.cpus node cpu,
        shows.cpus node cpu,
        any-held node cpu parts,
        times-taken s now id node cpu parts names sound waits,
      )
      (one-more (times_held (parts_of s.jobs) node cpu) (times_held parts node cpu));
  mem = λ node. omega (arith, takes.mem node, shows.mem node, mem-taken s now id node parts names sound waits);
}

pub giving-shows : (parts left gone : List Part) (held after : List Held)
    → ((node cpu : ℕ) → times_held parts node cpu ≤ 1)
    → ((node cpu : ℕ) → times_held parts node cpu ≡ times_held left node cpu + times_held gone node cpu)
    → ((node : ℕ) → mem_held parts node ≡ mem_held left node + mem_held gone node)
    → ShowsParts held parts → GivesParts held gone after
    → ShowsParts after left
giving-shows parts left gone held after once times mem shows gives = record {
  cpus = λ node cpu.
      rw (gives.cpus node cpu, shows.cpus node cpu, any-held node cpu gone, times node cpu)
      (one-less (times_held left node cpu) (times_held gone node cpu) (omega (arith, times node cpu, once node cpu)));
  mem = λ node. omega (arith, gives.mem node, shows.mem node, mem node);
}

-- each processor of a part is held, and its memory
cpu-held : (parts : List Part) (k : ℕ) (d : Part) (cpu : ℕ) → k < length parts
    → list_any (λ id. eqb id cpu) (get_or parts k d).cpus ≡ true → 0 < times_held parts (get_or parts k d).node cpu
unfolding times_held
cpu-held parts k d cpu below has =
    let part = get_or parts k d in
    let counts : cpu_in part.node cpu part ≡ 1 = rw (eq-eqb part.node part.node refl, has) refl in
    omega (arith, counts, get_or-le-sum_by (cpu_in part.node cpu) parts k d below)

mem-held : (parts : List Part) (k : ℕ) (d : Part) → k < length parts
    → (get_or parts k d).mem ≤ mem_held parts (get_or parts k d).node
unfolding mem_held
mem-held parts k d below =
    let part = get_or parts k d in
    let counts : mem_in part.node part ≡ part.mem = rw (eq-eqb part.node part.node refl) refl in
    omega (arith, counts, get_or-le-sum_by (mem_in part.node) parts k d below)

pub parts-shown : (parts : List Part) (held : List Held) → ShowsParts held parts
    → All (λ (part : Part). All (λ cpu. holds_cpu held part.node cpu ≡ true) part.cpus
    × part.mem ≤ held_mem held part.node) parts
parts-shown parts held shows k d below =
    let part = get_or parts k d in (
      λ j e inside.
          let cpu = get_or part.cpus j e in
          let has = list_any_at (λ id. eqb id cpu) part.cpus j e inside (eq-eqb cpu cpu refl) in
          let some = cpu-held parts k d cpu below has in
          shows.cpus part.node cpu ∙ grind (arith, nat_tests),
      omega (arith, shows.mem part.node, mem-held parts k d below),
    )

-- events in which each job keeps its parts
pub parts-stay : (jobs : List JobRecord) (change : JobRecord → JobRecord) (goes : JobRecord → Bool)
    → All (λ (job : JobRecord). (change job).parts ≡ job.parts) jobs
    → All (λ (job : JobRecord). goes (change job) ≡ true → job.parts ≡ []) jobs
    → parts_of (those_left change goes jobs) ≡ parts_of jobs
parts-stay [] change goes same none = refl
parts-stay (job ∷ jobs) change goes same none =
    let Same : JobRecord → Type 0 = λ one. (change one).parts ≡ one.parts in
    let None : JobRecord → Type 0 = λ one. goes (change one) ≡ true → one.parts ≡ [] in
    let rest = parts-stay jobs change goes (All-tail Same job jobs same) (All-tail None job jobs none) in
    elim (cases_Bool (goes (change job))) [
      | inl gone ↦ rw (gone, All-head None job jobs none gone) rest
      | inr stays ↦ rw (stays, All-head Same job jobs same) (ap (λ parts. job.parts ++ parts) rest)
    ]
