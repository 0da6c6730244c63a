-- What a user does to all jobs that are named: why it is refused, and the state after it.
use Rattle.std.specs.Prelude.{ℕ, Bool, ◌&&◌, not, is_none, IfSome, if◌then◌else◌, List, [], ◌∷◌, map, filter, bytes_eq, Option, Some, None}
use Rattle.std.specs.List.{list_any}
use Rattle.reply_data.specs.declared.refusal.Refusal.{Refusal}
use Rattle.reply_data.specs.declared.refusal.Refusal.TheVariants.{InvalidJobId, AccessDenied}
use Rattle.reply_data.specs.declared.reply.Reply.TheVariants.{Done}
use Rattle.request_data.specs.declared.target.Target.{Target}
use Rattle.request_data.specs.declared.target.Targets.{Targets}
use Rattle.request_data.specs.declared.target.Targets.TheVariants.{List as Listed, User}
use Rattle.job_table.specs.declared.record.JobRecord.{JobRecord}
use Rattle.job_table.specs.Targets.{is_named}
use Rattle.ctl_state.specs.Events.{become, plan_left}
use Rattle.ctl_state.specs.Refusals.{refused_if}
use Rattle.ctl_state.specs.Soundness.{IsLimit}
use Rattle.ctl_state.specs.State.{State}
use Rattle.ctl_state.specs.Verdicts.{Verdict, Stays, Makes}
use Rattle.ctl_jobs.specs.declared.action.Action.{Action}
use Rattle.ctl_jobs.specs.declared.action.Action.TheVariants.{Cancel, Update}
use Rattle.ctl_jobs.specs.Actions.{done_to, job_refusal, leaves, may_change}

-- Several jobs are refused where there are none, or where each of them is; then as the first of them is.
abbrev pub refusal_of_all : List (Option Refusal) → Option Refusal
refusal_of_all [] = Some InvalidJobId
refusal_of_all (first ∷ later) = if list_any is_none (first ∷ later) then None else first

-- why a user may not do this to what a target names
unfoldable pub target_refusal : State → List ℕ → Action → Target → Option Refusal
target_refusal s user action target =
    refusal_of_all (map (job_refusal s user action) (filter (is_named target) s.jobs))

-- why it is refused, in their order; all targets are tested before any job changes
abbrev pub refusals : State → List ℕ → Action → List Target → List (Option Refusal)
refusals s user action targets = map (target_refusal s user action) targets

-- why a user may not do this to all jobs of an owner
abbrev pub owner_refusals : State → List ℕ → List ℕ → List (Option Refusal)
owner_refusals s user owner = refused_if (not (may_change s user owner)) AccessDenied ∷ []

-- the targets name the job; the job is the owner's
abbrev pub are_naming : List Target → JobRecord → Bool
are_naming targets job = list_any (λ target. is_named target job) targets

abbrev pub is_owned : List ℕ → JobRecord → Bool
is_owned owner job = bytes_eq job.user owner

-- what a user cancels: what the targets name, or all of an owner's
abbrev pub are_meant : Targets → JobRecord → Bool
are_meant (Listed targets) = are_naming targets
are_meant (User owner) = is_owned owner

abbrev pub cancel_refusals : State → List ℕ → Targets → List (Option Refusal)
cancel_refusals s user (Listed targets) = refusals s user Cancel targets
cancel_refusals s user (User owner) = owner_refusals s user owner

-- the user may do this to the job
abbrev pub may_do : State → List ℕ → Action → JobRecord → Bool
may_do s user action job = is_none (job_refusal s user action job)

-- the user may do this to the job, and it becomes another by it
abbrev pub changes : State → List ℕ → Action → JobRecord → Bool
changes s user action job = may_do s user action job && not (leaves user action job)

-- the job is named, and changes
abbrev pub goes : State → List ℕ → Action → (JobRecord → Bool) → JobRecord → Bool
goes s user action named job = named job && changes s user action job

-- the job after it, where it is named and the user may do it
abbrev pub done_where : State → ℕ → List ℕ → Action → Bool → JobRecord → JobRecord
done_where s now user action named job = if named && may_do s user action job then done_to now user action job else job

abbrev pub done_if : State → ℕ → List ℕ → Action → (JobRecord → Bool) → JobRecord → JobRecord
done_if s now user action named job = done_where s now user action (named job) job

-- the state once it is done to those that are named; who leaves Pending loses its place in the plan, and whoever leaves
-- Running is charged to his association
abbrev pub change_after : State → ℕ → List ℕ → Action → (JobRecord → Bool) → State
change_after s now user action named = record (become now (map (done_if s now user action named) s.jobs) s) {
  plan = plan_left (map (done_if s now user action named) s.jobs) s.plan;
}

-- what it makes that isn't refused: nothing where no job changes
abbrev pub change_made : State → ℕ → List ℕ → Action → (JobRecord → Bool) → Verdict
change_made s now user action named =
    if list_any (goes s user action named) s.jobs then Makes Done (change_after s now user action named) else Stays

-- a limit that it sets is in its range
abbrev pub IsAction : Action → Type 0
IsAction (Update limit nice) = IfSome limit IsLimit
IsAction action = Unit {0}
