-- The jobs that a plan names.
use Rattle.std.proofs.Common.{◌≡◌, ℕ, zero, suc, ◌<◌, ◌≤◌, Bool, true, false, ◌&&◌, eqb, if◌then◌else◌, ◌⊎◌, List, [], ◌∷◌, length, filter, All, AllPairs, Contains, get_or, Some, refl, arith, inl, inr}
use Rattle.std.specs.Prelude.{◌≢◌, IfOk, Result, Ok, Err, nat_le}
use Rattle.std.specs.List.{list_all}
use Rattle.std.proofs.lemmas.Bool.{and_parts, both_ways, eq-eqb, eqb-true}
use Rattle.std.proofs.lemmas.Bool.Decides.{nat_tests}
use Rattle.std.proofs.lemmas.List.Sums.{AllPass-from_list_all, list_all-from_AllPass}
use Rattle.backfill_planner.specs.declared.Placed.{Placed}
use Rattle.std.proofs.lemmas.List.Elements.{All-contains, All-filter, All-map}
use Rattle.job_table.specs.declared.record.JobRecord.{JobRecord}
use Rattle.job_table.specs.JobStates.{is_pending}
use Rattle.job_table.specs.Table.{HaveRisingIds, job_with}
use Rattle.ctl_state.specs.Events.{waits}
use Rattle.ctl_state.specs.Soundness.{PlansPending, pending_ids}
use Rattle.ctl_state.specs.State.{last_second}
use Rattle.ctl_restore.specs.Steps.{is_planned}
use Rattle.list_lemmas.proofs.Pairs.{pairs-head, pairs-tail}

abbrev Rising : JobRecord → JobRecord → Type 0
Rising one other = one.id < other.id

later : {X : Type 0} (y x : X) (xs : List X) → Contains xs x → Contains (y ∷ xs) x
later y x xs (k, below, is) = (suc k, omega (arith, below), is)

first-or-later : {X : Type 0} (y x : X) (xs : List X) → Contains (y ∷ xs) x → (y ≡ x) ⊎ Contains xs x
first-or-later y x xs (zero, below, is) = inl is
first-or-later y x xs (suc k, below, is) = inr (k, omega (arith, below), is)

-- whoever waits is above all that those that may wait are above
above : (n id : ℕ) (jobs : List JobRecord) → All (λ (job : JobRecord). n < job.id) jobs → Contains (pending_ids jobs) id
    → n < id
above n id jobs all has =
    let waiting : JobRecord → Bool = λ job. is_pending job.state in
    All-contains (λ k. n < k) (pending_ids jobs) id
    (All-map (λ k. n < k) (λ (job : JobRecord). job.id) (filter waiting jobs)
    (All-filter waiting (λ (job : JobRecord). n < job.id) jobs all)) has

pub waits-there : (jobs : List JobRecord) (id : ℕ) → waits (job_with id jobs) ≡ true → Contains (pending_ids jobs) id
waits-there [] id is = absurd cc
waits-there (job ∷ jobs) id is =
    at (eqb job.id id) (is_pending job.state) refl refl (λ rest. waits-there jobs id rest) where
      found : waits (if eqb job.id id then Some job else job_with id jobs) ≡ true
      found = is

      at : (here pends : Bool) → eqb job.id id ≡ here → is_pending job.state ≡ pends
          → (waits (job_with id jobs) ≡ true → Contains (pending_ids jobs) id) → Contains (pending_ids (job ∷ jobs)) id
      at true true here pends on = rw pends (0, omega arith, eqb-true job.id id here)
      at true false here pends on = absurd (both_ways (is_pending job.state) pends (rw here at found))
      at false true here pends on = rw pends (later job.id id (pending_ids jobs) (on (rw here at found)))
      at false false here pends on = rw pends (on (rw here at found))

pub there-waits : (jobs : List JobRecord) (id : ℕ) → HaveRisingIds jobs → Contains (pending_ids jobs) id
    → waits (job_with id jobs) ≡ true
there-waits [] id rising (k, below, is) = absurd (omega (arith, below))
there-waits (job ∷ jobs) id rising has =
    at (eqb job.id id) (is_pending job.state) refl refl
    (λ among. there-waits jobs id (pairs-tail Rising job jobs rising) among) where
      at : (here pends : Bool) → eqb job.id id ≡ here → is_pending job.state ≡ pends
          → (Contains (pending_ids jobs) id → waits (job_with id jobs) ≡ true)
          → waits (job_with id (job ∷ jobs)) ≡ true
      at true true here pends on = rw here pends
      at true false here pends on =
          let among : Contains (pending_ids jobs) id = rw pends at has in
          absurd (omega (arith, eqb-true job.id id here, above job.id id jobs (pairs-head Rising job jobs rising) among))
      at false true here pends on =
          let cases : Contains (job.id ∷ pending_ids jobs) id = rw pends at has in
          rw here (elim (first-or-later job.id id (pending_ids jobs) cases) as (λ _. waits (job_with id jobs) ≡ true) [
            | inl same ↦ absurd (both_ways (eqb job.id id) here (eq-eqb job.id id same))
            | inr among ↦ on among
          ])
      at false false here pends on = rw here (on (rw pends at has))

-- what follows of the value of a result
pub ok-then : {A E : Type 0} (r : Result A E) (P Q : A → Type 0) → IfOk r P → ((a : A) → P a → Q a) → IfOk r Q
ok-then (Ok a) P Q is follows = follows a is
ok-then (Err e) P Q is follows = tt

-- a plan of waiting jobs, and the test of it
pub plans : (jobs : List JobRecord) (plan : List Placed) → list_all (is_planned jobs) plan ≡ true
    → AllPairs (λ (one other : Placed). one.id ≢ other.id) plan → PlansPending jobs plan
unfolding is_planned
plans jobs plan all once = record {
  pending = λ k d below. waits-there jobs (get_or plan k d).id (both k d below).1;
  once = once;
  last = λ k d below. le (get_or plan k d).start (both k d below).0;
}
  where
    both : (k : ℕ) (d : Placed) → k < length plan
        → (nat_le (get_or plan k d).start last_second ≡ true) × (waits (job_with (get_or plan k d).id jobs) ≡ true)
    both k d below =
        and_parts (nat_le (get_or plan k d).start last_second) (waits (job_with (get_or plan k d).id jobs))
        (AllPass-from_list_all (is_planned jobs) plan all k d below)

    le : (n : ℕ) → nat_le n last_second ≡ true → n ≤ last_second
    le n is = grind (arith, nat_tests)

pub planned-all : (jobs : List JobRecord) (plan : List Placed) → HaveRisingIds jobs → PlansPending jobs plan
    → list_all (is_planned jobs) plan ≡ true
unfolding is_planned
planned-all jobs plan rising plans =
    list_all-from_AllPass (is_planned jobs) plan
    (λ k d below. rw (there-waits jobs (get_or plan k d).id rising (plans.pending k d below))
    (le (get_or plan k d).start (plans.last k d below)))
  where
    le : (n : ℕ) → n ≤ last_second → (nat_le n last_second && true) ≡ true
    le n few = grind (arith, nat_tests)
