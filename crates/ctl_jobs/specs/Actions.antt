-- What users do to jobs: why one may not be done, and what becomes of a job.
use Rattle.std.specs.Prelude.{ℕ, Bool, true, false, ◌&&◌, ◌||◌, not, is_some, nat_eq, if◌then◌else◌, List, [], ◌∷◌, bytes_eq, Option, Some, None}
use Rattle.plain_data.specs.declared.limit.Limit.{Limit}
use Rattle.plain_data.specs.declared.limit.Limit.TheVariants.{Minutes, Unlimited}
use Rattle.plain_data.specs.declared.nice.Nice.{Nice}
use Rattle.plain_data.specs.declared.nice.Nice.TheVariants.{Lower, Raise}
use Rattle.reply_data.specs.declared.refusal.Refusal.{Refusal}
use Rattle.reply_data.specs.declared.refusal.Refusal.TheVariants.{AccessDenied, AlreadyDone, WrongState, NotRequeueable}
use Rattle.request_data.specs.declared.state.Final.TheVariants as final
use Rattle.request_data.specs.declared.state.HeldBy.{HeldBy}
use Rattle.request_data.specs.declared.state.HeldBy.TheVariants as held
use Rattle.request_data.specs.declared.state.JobState.{JobState}
use Rattle.request_data.specs.declared.state.JobState.TheVariants.{Pending, Running, Completing, Ended}
use Rattle.job_table.specs.declared.record.JobRecord.{JobRecord}
use Rattle.job_table.specs.declared.change.Change.TheVariants.{Leave, CancelPending, CancelRequeue, SetHold, SetLimit, SetNice}
use Rattle.job_table.specs.Changes.{changed}
use Rattle.job_table.specs.JobStates.{is_pending, is_running, is_completing, is_ended}
use Rattle.ctl_state.specs.Limits.{exceeds}
use Rattle.ctl_state.specs.Refusals.{first_refusal, is_privileged, refused_if}
use Rattle.ctl_state.specs.State.{State}
use Rattle.ctl_jobs.specs.declared.action.Action.{Action}
use Rattle.ctl_jobs.specs.declared.action.Action.TheVariants.{Cancel, Hold, Release, Requeue, Update}

-- a user may change what is of this user
abbrev pub may_change : State → List ℕ → List ℕ → Bool
may_change s user owner = is_privileged s user || bytes_eq owner user

abbrev pub is_by_admin : HeldBy → Bool
is_by_admin held.Nobody = false
is_by_admin held.User = false
is_by_admin held.Admin = true

-- the new limit, if there is one, is above the old one
abbrev pub raises : Option Limit → Limit → Bool
raises None old = false
raises (Some limit) old = exceeds limit old

-- the new nice value, if there is one, raises the priority
abbrev pub is_negative : Option Nice → Bool
is_negative None = false
is_negative (Some (Lower number)) = false
is_negative (Some (Raise number)) = true

-- Only privileged users let go what one of them holds, and raise limits and priorities.
abbrev pub needs_privilege : Action → JobRecord → Bool
needs_privilege Release job = is_by_admin job.held_by
needs_privilege (Update limit nice) job = raises limit job.limit || is_negative nice
needs_privilege action job = false

abbrev pub is_denied : State → List ℕ → Action → JobRecord → Bool
is_denied s user action job =
    not (may_change s user job.user) || (needs_privilege action job && not (is_privileged s user))

-- the job has ended, or completes and doesn't start again
abbrev pub is_done : JobState → Bool
is_done Pending = false
is_done Running = false
is_done (Completing final.Requeue) = false
is_done (Completing end) = true
is_done (Ended end) = true

-- it is too late for this: only cancelling still stops a job that completes and was to start again
abbrev pub is_late : Action → JobState → Bool
is_late Cancel state = is_done state
is_late action state = is_completing state || is_ended state

-- the job's state doesn't allow this: a running job is neither held nor released nor gets another nice value, a pending
-- one isn't requeued
abbrev pub is_untimely : Action → JobState → Bool
is_untimely Cancel state = false
is_untimely (Hold for_owner) state = is_running state
is_untimely Release state = is_running state
is_untimely Requeue state = is_pending state
is_untimely (Update limit nice) state = is_some nice && is_running state

-- the job may be started again
abbrev pub may_restart : JobRecord → Bool
may_restart job = job.terms.requeue

abbrev pub is_barred : Action → JobRecord → Bool
is_barred Requeue job = not (may_restart job)
is_barred action job = false

-- why a user may not do this to a job, in their order
abbrev pub job_refusals : State → List ℕ → Action → JobRecord → List (Option Refusal)
job_refusals s user action job =
    refused_if (is_denied s user action job) AccessDenied
    ∷ refused_if (is_late action job.state) AlreadyDone
    ∷ refused_if (is_untimely action job.state) WrongState
    ∷ refused_if (is_barred action job) NotRequeueable
    ∷ []

unfoldable pub job_refusal : State → List ℕ → Action → JobRecord → Option Refusal
job_refusal s user action job = first_refusal (job_refusals s user action job)

-- a pending job ends at once, a running one completes, and one that was to start again doesn't
abbrev pub cancelled_in : ℕ → JobRecord → JobState → JobRecord
cancelled_in now job Pending = changed (CancelPending now) job
cancelled_in now job Running = changed (Leave final.Cancelled now None) job
cancelled_in now job (Completing end) = changed CancelRequeue job
cancelled_in now job (Ended end) = job

abbrev pub cancelled : ℕ → JobRecord → JobRecord
cancelled now job = cancelled_in now job job.state

-- Who holds a job that a user holds: what a privileged user holds stays so; else its owner, where it is the owner who
-- holds it or it is held for the owner.
abbrev pub held_after : List ℕ → Bool → JobRecord → HeldBy
held_after user for_owner job =
    if is_by_admin job.held_by then held.Admin else
    if for_owner || bytes_eq job.user user then held.User else
    held.Admin

-- the job with another limit, or another nice value, if there is one
abbrev pub with_limit : Option Limit → JobRecord → JobRecord
with_limit None job = job
with_limit (Some limit) job = changed (SetLimit limit) job

abbrev pub with_nice : Option Nice → JobRecord → JobRecord
with_nice None job = job
with_nice (Some nice) job = changed (SetNice nice) job

-- The job once this is done to it.
abbrev pub done_to : ℕ → List ℕ → Action → JobRecord → JobRecord
done_to now user Cancel job = cancelled now job
done_to now user (Hold for_owner) job = changed (SetHold (held_after user for_owner job)) job
done_to now user Release job = changed (SetHold held.Nobody) job
done_to now user Requeue job = changed (Leave final.Requeue now None) job
done_to now user (Update limit nice) job = with_nice nice (with_limit limit job)

abbrev pub same_holder : HeldBy → HeldBy → Bool
same_holder held.Nobody held.Nobody = true
same_holder held.User held.User = true
same_holder held.Admin held.Admin = true
same_holder one other = false

abbrev pub same_limit : Limit → Limit → Bool
same_limit (Minutes one) (Minutes other) = nat_eq one other
same_limit Unlimited Unlimited = true
same_limit one other = false

abbrev pub same_nice : Nice → Nice → Bool
same_nice (Lower one) (Lower other) = nat_eq one other
same_nice (Raise one) (Raise other) = nat_eq one other
same_nice one other = false

-- the job is to have this limit already
abbrev pub has_limit : Option Limit → JobRecord → Bool
has_limit None job = true
has_limit (Some limit) job = same_limit job.limit limit

abbrev pub has_nice : Option Nice → JobRecord → Bool
has_nice None job = true
has_nice (Some nice) job = same_nice job.nice nice

-- this leaves a job as it is to which it may be done
abbrev pub leaves : List ℕ → Action → JobRecord → Bool
leaves user Cancel job = false
leaves user (Hold for_owner) job = same_holder (held_after user for_owner job) job.held_by
leaves user Release job = same_holder held.Nobody job.held_by
leaves user Requeue job = false
leaves user (Update limit nice) job = has_limit limit job && has_nice nice job
