-- What users do to jobs, whatever the sum of sizes.
use Rattle.std.proofs.Common.{ℕ, ◌≡◌, Bool, List, refl}
use Rattle.std.specs.List.{list_any}
use Rattle.reply_data.specs.declared.reply.Reply.TheVariants.{Done}
use Rattle.request_data.specs.declared.target.Target.{Target}
use Rattle.request_data.specs.declared.target.Targets.{Targets}
use Rattle.request_data.specs.declared.target.Targets.TheVariants.{List as Listed, User}
use Rattle.job_table.specs.declared.record.JobRecord.{JobRecord}
use Rattle.ctl_state.specs.State.{State}
use Rattle.ctl_jobs.specs.declared.action.Action.{Action}
use Rattle.ctl_jobs.specs.Actions.{job_refusal}
use Rattle.ctl_jobs.specs.Changing.{cancel_refusals, change_after, change_made, goes, refusals, target_refusal}
use Rattle.saved_laws.specs.Rooms.{sized}
use Rattle.saved_laws.proofs.Resized.{making_sized, sized_by}

pub refusals_sized : (size : ℕ) (s : State) (user : List ℕ) (action : Action) (targets : List Target)
    → refusals (sized size s) user action targets ≡ refusals s user action targets
unfolding job_refusal target_refusal
refusals_sized size s user action targets = refl

pub cancel_refusals_sized : (size : ℕ) (s : State) (user : List ℕ) (targets : Targets)
    → cancel_refusals (sized size s) user targets ≡ cancel_refusals s user targets
unfolding job_refusal target_refusal
cancel_refusals_sized size s user (Listed targets) = refl
cancel_refusals_sized size s user (User owner) = refl

pub change_made_sized : (size : ℕ) (s : State) (now : ℕ) (user : List ℕ) (action : Action) (named : JobRecord → Bool)
    → change_made (sized size s) now user action named ≡ sized_by size (change_made s now user action named)
unfolding job_refusal
change_made_sized size s now user action named =
    making_sized size (list_any (goes s user action named) s.jobs) Done (change_after s now user action named)
