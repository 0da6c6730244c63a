-- The placements that start in a pass.
use Rattle.std.proofs.lemmas.Bool.Decides.{nat_tests}
use Rattle.std.proofs.Common.{◌≡◌, ◌≢◌, ℕ, ◌≤◌, ◌&&◌, eqb, List, [], ◌∷◌, length, fold, sum_by, All, AllPairs, refl, arith, inl, inr}
use Rattle.std.proofs.lemmas.Bool.{and_parts, cases_Bool, eqb-true}
use Rattle.std.proofs.lemmas.List.Elements.{All-cons, All-head, All-nil, All-tail}
use Rattle.std.proofs.lemmas.List.Kept.{AllPairs-cons}
use Rattle.std.proofs.lemmas.List.Sums.{sum_by-cons}
use Rattle.backfill_planner.specs.declared.Placed.{Placed}
use Rattle.backfill_planner.specs.Plans.{cpus_on, mem_on, starts_at}
use Rattle.job_table.specs.declared.record.JobRecord.{JobRecord}
use Rattle.ctl_state.specs.State.{State}
use Rattle.ctl_pass.specs.Starting.{begun_by, due, may_start, started}
use Rattle.ctl_pass.specs.Taking.{CanStart, IsReady}
use Rattle.list_lemmas.proofs.Pairs.{pairs-head, pairs-tail}

-- as many as start
pub due-count : (s : State) (now : ℕ) (jobs : List JobRecord) (plan : List Placed)
    → length (due s now jobs plan) ≡ length (started s now jobs plan).starts
unfolding due started
due-count s now jobs [] = refl
due-count s now jobs (placed ∷ later) =
    grind (
      arith,
      nat_tests,
      due-count s now jobs later,
      due-count s now (begun_by s.nodes now jobs placed) later,
    )

-- the jobs are those that their starts make
pub due-jobs : (s : State) (now : ℕ) (jobs : List JobRecord) (plan : List Placed)
    → (started s now jobs plan).jobs ≡ fold (begun_by s.nodes now) jobs (due s now jobs plan)
unfolding due started
due-jobs s now jobs [] = refl
due-jobs s now jobs (placed ∷ later) =
    grind (
      arith,
      nat_tests,
      due-jobs s now jobs later,
      due-jobs s now (begun_by s.nodes now jobs placed) later,
    )

module _ (s : State) (now : ℕ) where
  -- they are some of the placements, in the same order
  all-due : (P : Placed → Type 0) (jobs : List JobRecord) (plan : List Placed) → All P plan
      → All P (due s now jobs plan)
  unfolding due
  all-due P jobs [] all = All-nil P
  all-due P jobs (placed ∷ later) all =
      let next = begun_by s.nodes now jobs placed in
      let rest = All-tail P placed later all in
      elim (cases_Bool (eqb placed.start now && may_start s jobs placed.id)) [
        | inl goes ↦ rw goes (All-cons P placed (due s now next later) (All-head P placed later all)
            (all-due P next later rest))
        | inr stays ↦ rw stays (all-due P jobs later rest)
      ]

  pairs-due : (R : Placed → Placed → Type 0) (jobs : List JobRecord) (plan : List Placed) → AllPairs R plan
      → AllPairs R (due s now jobs plan)
  unfolding due
  pairs-due R jobs [] pairs = pairs
  pairs-due R jobs (placed ∷ later) pairs =
      let next = begun_by s.nodes now jobs placed in
      let rest = pairs-tail R placed later pairs in
      elim (cases_Bool (eqb placed.start now && may_start s jobs placed.id)) [
        | inl goes ↦ rw goes (AllPairs-cons R placed (due s now next later)
            (all-due (R placed) next later (pairs-head R placed later pairs)) (pairs-due R next later rest))
        | inr stays ↦ rw stays (pairs-due R jobs later rest)
      ]

  -- all of which begin now
  pub due-now : (jobs : List JobRecord) (plan : List Placed)
      → All (λ (placed : Placed). placed.start ≡ now) (due s now jobs plan)
  unfolding due
  due-now jobs [] = All-nil (λ (placed : Placed). placed.start ≡ now)
  due-now jobs (placed ∷ later) =
      let next = begun_by s.nodes now jobs placed in
      elim (cases_Bool (eqb placed.start now && may_start s jobs placed.id)) [
        | inl goes ↦ rw goes (All-cons (λ (one : Placed). one.start ≡ now) placed (due s now next later)
            (eqb-true placed.start now (and_parts (eqb placed.start now) (may_start s jobs placed.id) goes).0)
            (due-now next later))
        | inr stays ↦ rw stays (due-now jobs later)
      ]

  -- so they take no more than all that begin now
  sum-due : (amount : Placed → ℕ) (jobs : List JobRecord) (plan : List Placed)
      → sum_by amount (starts_at now (due s now jobs plan)) ≤ sum_by amount (starts_at now plan)
  unfolding due
  sum-due amount jobs [] = omega arith
  sum-due amount jobs (placed ∷ later) =
      let next = begun_by s.nodes now jobs placed in
      grind (
        arith,
        nat_tests,
        sum-due amount jobs later,
        sum-due amount next later,
        sum_by-cons amount placed (starts_at now later),
        sum_by-cons amount placed (starts_at now (due s now next later)),
      )

-- and can start if all can, whatever decides which are due
pub can-due : (s limits : State) (plan : List Placed) → CanStart s plan
    → CanStart s (due limits s.moment s.jobs plan)
can-due s limits plan can =
    record {
      sound = can.sound;
      each = all-due limits s.moment (IsReady s) s.jobs plan can.each;
      apart = pairs-due limits s.moment (λ (one other : Placed). one.id ≢ other.id) s.jobs plan can.apart;
      cpus = λ node. omega (arith, can.cpus node, sum-due limits s.moment (cpus_on node) s.jobs plan);
      mem = λ node. omega (arith, can.mem node, sum-due limits s.moment (mem_on node) s.jobs plan);
    }
