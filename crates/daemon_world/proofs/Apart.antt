-- Starts that jobs hold, of which no two are one, share no processor.
use Rattle.std.proofs.Common.{ℕ, ◌≡◌, ◌≤◌, ◌∙◌, true, false, List, [], ◌∷◌, count_by, All, sym, ap, arith, inl, inr, nat_eq}
use Rattle.std.specs.List.{list_any}
use Rattle.std.proofs.lemmas.Bool.{and_from, both_ways, cases_Bool, eq-eqb}
use Rattle.std.proofs.lemmas.List.Elements.{All-head, All-tail}
use Rattle.plain_data.specs.Rows.{has_id}
use Rattle.request_data.specs.declared.report.Start.{Start}
use Rattle.job_table.specs.declared.record.JobRecord.{JobRecord}
use Rattle.job_table.specs.declared.record.Part.{Part}
use Rattle.job_table.specs.Changes.{is_on}
use Rattle.ctl_state.specs.Holding.{has_cpu, parts_of, times_held}
use Rattle.node_daemon.specs.Daemon.{is_same}
use Rattle.daemon_world.specs.Claims.{Claim, Holds, IsClaimed, IsHeldAt, times_claimed, times_claiming}
use Rattle.daemon_world.proofs.Claimed.{same_start, starts_are}
use Rattle.daemon_world.proofs.Lists.{any_cases, any_counts, any_none, count_append, count_no, count_yes}
use Rattle.list_lemmas.proofs.Sums.{count-cons as count_cons}

part-has : (place cpu : ℕ) (claim : Claim) (part : Part) → has_id claim.cpus cpu ≡ true → IsClaimed place claim part
    → has_cpu place cpu part ≡ true
part-has place cpu claim part has is =
    and_from (is_on place part) (list_any (λ id. nat_eq id cpu) part.cpus) (eq-eqb part.node place is.0)
    (ap (λ (cpus : List ℕ). has_id cpus cpu) is.1 ∙ has)

-- the job holds the processor
job-has : (place cpu : ℕ) (claim : Claim) (job : JobRecord) → has_id claim.cpus cpu ≡ true → Holds place claim job
    → 1 ≤ count_by (has_cpu place cpu) job.parts
job-has place cpu claim job has holds =
    any_counts (IsClaimed place claim) (has_cpu place cpu) job.parts (λ part is. part-has place cpu claim part has is)
    holds.part

one-holds : (place cpu : ℕ) (claim : Claim) (jobs : List JobRecord) → has_id claim.cpus cpu ≡ true
    → IsHeldAt jobs place claim → 1 ≤ count_by (has_cpu place cpu) (parts_of jobs)
one-holds place cpu claim [] has held = absurd (any_none (Holds place claim) held)
one-holds place cpu claim (job ∷ jobs) has held =
    let both = count_append (has_cpu place cpu) job.parts (parts_of jobs) in
    elim (any_cases (Holds place claim) job jobs held) [
      | inl here ↦ omega (arith, both, job-has place cpu claim job has here)
      | inr later ↦ omega (arith, both, one-holds place cpu claim jobs has later)
    ]

-- two starts hold it twice
two-hold : (place cpu : ℕ) (one other : Claim) (jobs : List JobRecord) → has_id one.cpus cpu ≡ true
    → has_id other.cpus cpu ≡ true → is_same other.start one.start ≡ false → IsHeldAt jobs place one
    → IsHeldAt jobs place other → 2 ≤ count_by (has_cpu place cpu) (parts_of jobs)
two-hold place cpu one other [] has also differ held held_too = absurd (any_none (Holds place one) held)
two-hold place cpu one other (job ∷ jobs) has also differ held held_too =
    let both = count_append (has_cpu place cpu) job.parts (parts_of jobs) in
    elim (any_cases (Holds place one) job jobs held) [
      | inl here ↦ elim (any_cases (Holds place other) job jobs held_too) [
        | inl here_too ↦
            absurd (both_ways (is_same other.start one.start) differ (starts_are other.start one.start
            (sym here_too.id ∙ here.id) (sym here_too.number ∙ here.number)))
        | inr later ↦
            omega (arith, both, job-has place cpu one job has here, one-holds place cpu other jobs also later)
      ]
      | inr later ↦ elim (any_cases (Holds place other) job jobs held_too) [
        | inl here_too ↦
            omega (arith, both, job-has place cpu other job also here_too, one-holds place cpu one jobs has later)
        | inr later_too ↦
            omega (arith, both, two-hold place cpu one other jobs has also differ later later_too)
      ]
    ]

-- so no other start has it
none-shared : (place cpu : ℕ) (one : Claim) (jobs : List JobRecord) (claims : List Claim)
    → count_by (has_cpu place cpu) (parts_of jobs) ≤ 1 → has_id one.cpus cpu ≡ true → IsHeldAt jobs place one
    → All (IsHeldAt jobs place) claims → times_claiming claims one.start ≤ 0 → times_claimed claims cpu ≤ 0
none-shared place cpu one jobs [] once has held all none = omega arith
none-shared place cpu one jobs (claim ∷ later) once has held all none =
    let starts = count_cons (λ (other : Claim). is_same other.start one.start) claim later in
    let rest = none-shared place cpu one jobs later once has held (All-tail (IsHeldAt jobs place) claim later all)
    (omega (arith, starts, none)) in
    elim (cases_Bool (has_id claim.cpus cpu)) [
      | inl also ↦ elim (cases_Bool (is_same claim.start one.start)) [
        | inl is ↦
            absurd (omega (
              arith,
              count_yes (λ (other : Claim). is_same other.start one.start) claim later is,
              none,
            ))
        | inr differ ↦
            absurd (omega (
              arith,
              once,
              two-hold place cpu one claim jobs has also differ held (All-head (IsHeldAt jobs place) claim later all),
            ))
      ]
      | inr out ↦ omega (arith, count_no (λ (other : Claim). has_id other.cpus cpu) claim later out, rest)
    ]

pub held_apart : (place cpu : ℕ) (jobs : List JobRecord) (claims : List Claim)
    → times_held (parts_of jobs) place cpu ≤ 1
    → All (IsHeldAt jobs place) claims → ((start : Start) → times_claiming claims start ≤ 1)
    → times_claimed claims cpu ≤ 1
unfolding times_held
held_apart place cpu jobs [] held all once = omega arith
held_apart place cpu jobs (claim ∷ later) held all once =
    let starts = λ (start : Start). count_cons (λ (other : Claim). is_same other.start start) claim later in
    let rest = held_apart place cpu jobs later held (All-tail (IsHeldAt jobs place) claim later all)
    (λ start. omega (arith, starts start, once start)) in
    elim (cases_Bool (has_id claim.cpus cpu)) [
      | inl has ↦
          let first = count_yes (λ (other : Claim). is_same other.start claim.start) claim later
          (same_start claim.start) in
          let none = none-shared place cpu claim jobs later held has (All-head (IsHeldAt jobs place) claim later all)
          (All-tail (IsHeldAt jobs place) claim later all) (omega (arith, first, once claim.start)) in
          omega (arith, count_yes (λ (other : Claim). has_id other.cpus cpu) claim later has, none)
      | inr out ↦ omega (arith, count_no (λ (other : Claim). has_id other.cpus cpu) claim later out, rest)
    ]
