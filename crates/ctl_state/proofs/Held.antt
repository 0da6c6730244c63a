-- What parts hold, as counts and sums over them, and what follows from its being held once.
use Rattle.std.proofs.Common.{◌≡◌, ℕ, ◌≤◌, true, cond, eqb, List, AllPairs, Any, get_or, refl, sym}
use Rattle.std.proofs.lemmas.Bool.{both_ways, eq-eqb}
use Rattle.std.proofs.lemmas.List.Folds.{list_any_at}
use Rattle.job_table.specs.declared.record.Part.{Part}
use Rattle.ctl_state.specs.State.{State}
use Rattle.ctl_state.specs.Holding.{AreApart, has_cpu, parts_of, times_held}
use Rattle.ctl_state.specs.Soundness.{IsSound}
use Rattle.ctl_state.proofs.Counts.{Any-counted, pairs-counted}

-- whether a part has a processor, as a number
abbrev pub cpu_in : ℕ → ℕ → Part → ℕ
cpu_in node cpu part = cond (has_cpu node cpu part) 1 0

-- a processor that is held stands in a part
pub was-held : (node cpu : ℕ) (parts : List Part) → 1 ≤ times_held parts node cpu → Any (λ part. has_cpu node cpu part ≡ true) parts
unfolding times_held
was-held node cpu parts some = Any-counted (has_cpu node cpu) parts some

-- where each processor stands in one part at most, no two parts share one
pub parts-apart : (s : State) → IsSound s → AllPairs AreApart (parts_of s.jobs)
unfolding times_held
parts-apart s sound i j d before below same k e inside (place, within, is) =
    let one = get_or (parts_of s.jobs) i d in
    let other = get_or (parts_of s.jobs) j d in
    let cpu = get_or one.cpus k e in
    let has : has_cpu one.node cpu one ≡ true = rw (eq-eqb one.node one.node refl) (list_any_at (λ id. eqb id cpu) one.cpus k e inside (eq-eqb cpu cpu refl)) in
    let too : has_cpu one.node cpu other ≡ true =
    rw (eq-eqb other.node one.node (sym same)) (list_any_at (λ id. eqb id cpu) other.cpus place cpu within (eq-eqb (get_or other.cpus place cpu) cpu is)) in
    both_ways (has_cpu one.node cpu other) (pairs-counted (has_cpu one.node cpu) (parts_of s.jobs) (sound.held.once one.node cpu) i j d before below has) too
