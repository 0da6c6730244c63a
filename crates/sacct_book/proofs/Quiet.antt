-- Requests that can't change what runs.
use Rattle.std.proofs.Common.{ℕ, ◌≡◌, ◌∙◌, Bool, true, false, ◌&&◌, cond, List, [], ◌∷◌, ◌++◌, map, length, All, Option, Some, None, nat_eq, refl, ap, arith}
use Rattle.std.specs.Prelude.{sum_by}
use Rattle.std.specs.List.{enumerate_from, list_any}
use Rattle.std.proofs.lemmas.Bool.{both_ways, cond_both}
use Rattle.std.proofs.lemmas.List.Elements.{All-cons, All-head, All-nil, All-tail}
use Rattle.std.proofs.lemmas.List.Sums.{sum_by-append, sum_by-cons}
use Rattle.plain_data.specs.Confs.{ConfView}
use Rattle.plain_data.specs.declared.array.ArraySpec.{ArraySpec}
use Rattle.plain_data.specs.declared.job.JobDesc.{JobDesc}
use Rattle.plain_data.specs.declared.limit.Limit.{Limit}
use Rattle.plain_data.specs.declared.nice.Nice.{Nice}
use Rattle.request_data.specs.declared.request.NodeOrder.TheVariants as order
use Rattle.request_data.specs.declared.request.Request.{Request}
use Rattle.job_table.specs.declared.record.JobRecord.{JobRecord}
use Rattle.job_table.specs.declared.record.Part.{Part}
use Rattle.job_table.specs.JobStates.{is_running}
use Rattle.job_table.specs.Usage.{cpus_held}
use Rattle.ctl_state.specs.State.{State}
use Rattle.ctl_jobs.specs.Submission.{Basis, new_jobs, task}
use Rattle.ctl_jobs.specs.declared.action.Action.{Action}
use Rattle.ctl_jobs.specs.declared.action.Action.TheVariants as act
use Rattle.ctl_jobs.specs.Actions.{done_to, with_limit, with_nice}
use Rattle.ctl_jobs.specs.Changing.{change_after, done_if, may_do}
use Rattle.ctl_nodes.specs.Failing.{after_loss, loses}
use Rattle.ctl_reconfigure.specs.Reconfiguring.{job_after as job_moved, part_after}
use Rattle.ctl_core.specs.Step.{raised, state_after}
use Rattle.step_lemmas.proofs.Making.{AsksCancel, AsksRequeue, ByAction, ByPass, ByReconfigure, ByReport, BySubmit, ByUpdateNode, MayMake}
use Rattle.step_lemmas.proofs.Steps.{step_is}
use Rattle.sacct_book.specs.Requests.{may_change_running}
use Rattle.sacct_book.specs.Running.{cpus_run_by, cpus_running}
use Rattle.sacct_book.proofs.Named.{counts}

-- ---- lists of jobs

-- each counts as before
map-same : (place : ℕ) (f : JobRecord → JobRecord) (jobs : List JobRecord)
    → ((job : JobRecord) → counts place (f job) ≡ counts place job)
    → cpus_run_by (map f jobs) place ≡ cpus_run_by jobs place
unfolding cpus_run_by
map-same place f [] each = refl
map-same place f (job ∷ jobs) each =
    omega (
      arith,
      sum_by-cons (counts place) job jobs,
      sum_by-cons (counts place) (f job) (map f jobs),
      each job,
      map-same place f jobs each,
    )

-- who doesn't run
abbrev pub IsStill : JobRecord → Type 0
IsStill job = is_running job.state ≡ false

pub still-none : (place : ℕ) (job : JobRecord) → IsStill job → counts place job ≡ 0
unfolding cpus_running
still-none place job still = none (nat_eq job.assoc place) (is_running job.state) (cpus_held job) still
  where
    none : (own runs : Bool) (held : ℕ) → runs ≡ false → cond own (cond runs held 0) 0 ≡ 0
    none own runs held still = grind arith

still-run : (place : ℕ) (jobs : List JobRecord) → All IsStill jobs → cpus_run_by jobs place ≡ 0
unfolding cpus_run_by
still-run place [] still = refl
still-run place (job ∷ jobs) still =
    omega (
      arith,
      sum_by-cons (counts place) job jobs,
      still-none place job (All-head IsStill job jobs still),
      still-run place jobs (All-tail IsStill job jobs still),
    )

append-same : (place : ℕ) (jobs new : List JobRecord) → All IsStill new
    → cpus_run_by (jobs ++ new) place ≡ cpus_run_by jobs place
unfolding cpus_run_by
append-same place jobs new still =
    omega (arith, sum_by-append (counts place) jobs new, still-run place new still)

-- ---- jobs that go on as they are

record Runs (job after : JobRecord) : Type 0 where
  pub assoc : after.assoc ≡ job.assoc
  pub state : after.state ≡ job.state
  pub parts : after.parts ≡ job.parts

runs-counts : (place : ℕ) (job after : JobRecord) → Runs job after → counts place after ≡ counts place job
unfolding cpus_running
runs-counts place job after runs = rw (runs.assoc, runs.state, runs.parts) refl

runs-itself : (job : JobRecord) → Runs job job
runs-itself job = record { assoc = refl; state = refl; parts = refl }

limit-runs : (limit : Option Limit) (job : JobRecord) → Runs job (with_limit limit job)
limit-runs None job = runs-itself job
limit-runs (Some limit) job = record { assoc = refl; state = refl; parts = refl }

nice-runs : (nice : Option Nice) (job : JobRecord) → Runs job (with_nice nice job)
nice-runs None job = runs-itself job
nice-runs (Some nice) job = record { assoc = refl; state = refl; parts = refl }

-- the action ends none
abbrev IsMild : Action → Type 0
IsMild act.Cancel = ⊥
IsMild act.Requeue = ⊥
IsMild action = Unit {0}

mild-counts : (place now : ℕ) (user : List ℕ) (action : Action) (job : JobRecord) → IsMild action
    → counts place (done_to now user action job) ≡ counts place job
mild-counts place now user act.Cancel job mild = absurd mild
mild-counts place now user (act.Hold for_owner) job mild =
    runs-counts place job (done_to now user (act.Hold for_owner) job) (record { assoc = refl; state = refl; parts = refl })
mild-counts place now user act.Release job mild =
    runs-counts place job (done_to now user act.Release job) (record { assoc = refl; state = refl; parts = refl })
mild-counts place now user act.Requeue job mild = absurd mild
mild-counts place now user (act.Update limit nice) job mild =
    runs-counts place (with_limit limit job) (with_nice nice (with_limit limit job)) (nice-runs nice (with_limit limit job))
    ∙ runs-counts place job (with_limit limit job) (limit-runs limit job)

-- ---- what requests come to

abbrev pub IsSame : ℕ → State → State → Type 0
IsSame place s t = cpus_run_by t.jobs place ≡ cpus_run_by s.jobs place

change-leaves : (place : ℕ) (s : State) (now : ℕ) (user : List ℕ) (action : Action) (named : JobRecord → Bool)
    → IsMild action → IsSame place s (change_after s now user action named)
change-leaves place s now user action named mild =
    map-same place (done_if s now user action named) s.jobs (λ job.
    cond_both (named job && may_do s user action job) (done_to now user action job) job
    (λ (after : JobRecord). counts place after ≡ counts place job)
    (λ done. mild-counts place now user action job mild) (λ not. refl))

tasks-still : (s : State) (now : ℕ) (user : List ℕ) (desc : JobDesc) (basis : Basis) (indices : List (ℕ × ℕ))
    → All IsStill (map (task s now user desc basis) indices)
tasks-still s now user desc basis [] = All-nil IsStill
tasks-still s now user desc basis ((place, index) ∷ later) =
    All-cons IsStill (task s now user desc basis (place, index)) (map (task s now user desc basis) later) refl
    (tasks-still s now user desc basis later)

new-still : (s : State) (now : ℕ) (user : List ℕ) (desc : JobDesc) (basis : Basis) (array : Option ArraySpec)
    → All IsStill (new_jobs s now user desc basis array)
unfolding new_jobs
new-still s now user desc basis None = All-cons IsStill _ [] refl (All-nil IsStill)
new-still s now user desc basis (Some array) = tasks-still s now user desc basis (enumerate_from 0 array.indices)

-- jobs whose nodes are at other places hold as many processors
moved-cpus : (s : State) (conf : ConfView) (parts : List Part)
    → sum_by (λ (part : Part). length part.cpus) (map (part_after s conf) parts)
    ≡ sum_by (λ (part : Part). length part.cpus) parts
moved-cpus s conf [] = refl
moved-cpus s conf (part ∷ parts) =
    omega (
      arith,
      sum_by-cons (λ (part : Part). length part.cpus) part parts,
      sum_by-cons (λ (part : Part). length part.cpus) (part_after s conf part) (map (part_after s conf) parts),
      moved-cpus s conf parts,
    )

moved-counts : (place : ℕ) (s : State) (conf : ConfView) (job : JobRecord)
    → counts place (job_moved s conf job) ≡ counts place job
unfolding cpus_running
moved-counts place s conf job =
    ap (λ (held : ℕ). cond (nat_eq job.assoc place) (cond (is_running job.state) held 0) 0) (moved-cpus s conf job.parts)

none-lost : (parts : List Part) → list_any (λ (part : Part). false) parts ≡ false
none-lost [] = refl
none-lost (part ∷ later) = none-lost later

-- nodes of which none is lost
spared : (place : ℕ) (s : State) (now : ℕ) → cpus_run_by (map (after_loss now (λ node. false)) s.jobs) place
    ≡ cpus_run_by s.jobs place
spared place s now =
    map-same place (after_loss now (λ node. false)) s.jobs (λ job. cond_both (loses (λ node. false) job) _ job
    (λ (after : JobRecord). counts place after ≡ counts place job)
    (λ some. absurd (both_ways (loses (λ node. false) job) (none-lost job.parts) some)) (λ none. refl))

pub made-leaves : (place : ℕ) (s : State) (now : ℕ) (user : List ℕ) (request : Request) (after : State)
    → may_change_running request ≡ false → MayMake s now user request after → IsSame place s after
made-leaves place s now user request after mild (BySubmit desc basis found) =
    append-same place s.jobs (new_jobs s now user desc basis desc.array) (new-still s now user desc basis desc.array)
made-leaves place s now user request after mild (ByAction action named (AsksCancel targets)) =
    absurd (both_ways true mild refl)
made-leaves place s now user request after mild (ByAction action named (AsksRequeue target)) =
    absurd (both_ways true mild refl)
made-leaves place s now user request after mild (ByAction action named asks) =
    change-leaves place s now user action named tt
made-leaves place s now user request after mild (ByUpdateNode nodes order.Down) = absurd (both_ways true mild refl)
made-leaves place s now user request after mild (ByUpdateNode nodes other) = spared place s now
made-leaves place s now user request after mild (ByReport report node found) = absurd (both_ways true mild refl)
made-leaves place s now user request after mild ByPass = absurd (both_ways true mild refl)
made-leaves place s now user request after mild (ByReconfigure conf bytes) =
    map-same place (job_moved s conf) s.jobs (moved-counts place s conf)
made-leaves place s now user request after mild other = refl

-- A request that can't change what runs leaves what the running jobs of each association hold.
pub quiet-same : (s : State) (now : ℕ) (user : List ℕ) (request : Request) → may_change_running request ≡ false
    → (place : ℕ) → cpus_run_by (state_after s now user request).jobs place ≡ cpus_run_by s.jobs place
quiet-same s now user request mild place =
    step_is (IsSame place s) s now user request refl
    (λ reply after is. made-leaves place s (raised s now) user request after mild is.kind)
