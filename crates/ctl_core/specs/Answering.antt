-- What private calls of the controller answer: a verdict's reply, and what it leaves. Of the proof alone: no public
-- call speaks of it.
use Rattle.std.specs.Prelude.{◌≡◌, ℕ, if◌then◌else◌, List, Option, Some, None, Result, IfSome, IfOk, OnErr}
use Rattle.request_data.specs.declared.request.Request.{Request}
use Rattle.request_data.specs.declared.request.Request.TheVariants.{Pass}
use Rattle.resource_profile.specs.Counts.{IsTickedUpTo}
use Rattle.backfill_planner.specs.Plans.{PlannedView}
use Rattle.ctl_state.specs.Refusals.{is_privileged}
use Rattle.ctl_state.specs.State.{State}
use Rattle.ctl_state.specs.Verdicts.{Verdict, reply_by, left_by}
use Rattle.ctl_core.specs.declared.reply.Answered.{Answered}
use Rattle.ctl_node_side.specs.Passes.{IsPassedOver, pass_input, planned_by_pass}
use Rattle.ctl_core.specs.Step.{IsHinted, is_entered, is_made, steps_of}

-- the reply of the verdict, once more where it makes an entry, and then the state is the one that the verdict makes
pub record Answers (s s' : State) (verdict : Verdict) (answered : Answered) : Type 0 where
  pub reply : answered.reply ≡ reply_by verdict
  pub entered : answered.entered ≡ (if is_entered answered.reply then Some answered.reply else None)
  pub after : s' ≡ (if is_entered answered.reply then left_by s verdict else s)

-- what a request does to the plan that is kept and to the counter of steps, where it is worked: a pass over an older plan
-- keeps its own, unless it is refused
pub record IsPlanning {E : Type 0} (s : State) (moment : ℕ) (user : List ℕ) (older was is : Option PlannedView)
    (before after : ℕ) (result : Result Answered E) : Type 0 where
  pub kept : IfOk result (λ answered. is ≡ (if is_made answered.reply then Some (pass_input s moment) else was))
  pub kept_err : OnErr result (is ≡ was)
  pub steps : IsTickedUpTo (if is_privileged s user then planned_by_pass s moment else 0) before after
  pub over : IfSome older (λ old. IsPassedOver old s moment before after)

abbrev pub HasPlanned : {E : Type 0} → Request → State → ℕ → List ℕ → Option PlannedView → Option PlannedView
    → Option PlannedView → ℕ → ℕ → Result Answered E → Type 0
HasPlanned Pass s moment user older was is before after result =
    IsPlanning s moment user older was is before after result
HasPlanned request s moment user older was is before after result = (is ≡ was) × (after ≡ before)

-- how many steps a request counts
abbrev pub IsCounted : Request → State → ℕ → List ℕ → Option PlannedView → ℕ → ℕ → Type 0
IsCounted Pass s now user older before after =
    IsTickedUpTo (steps_of s now user) before after × IfSome older (λ old. IsHinted old s now before after)
IsCounted request s now user older before after = after ≡ before
