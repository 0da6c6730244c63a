-- A whole pass: it sees to the nodes that fall silent first, and then does all that it does where none does.
use Rattle.std.specs.Prelude.{ℕ, ◌+◌, Bool, ◌&&◌, not, if◌then◌else◌, length}
use Rattle.reply_data.specs.declared.reply.Reply.TheVariants.{Passed}
use Rattle.ctl_state.specs.State.{State}
use Rattle.ctl_state.specs.Verdicts.{Verdict, Stays, Makes}
use Rattle.backfill_planner.specs.Plans.{PlannedView}
use Rattle.ctl_pass.specs.Freedom.{StartsAreFree}
use Rattle.ctl_pass.specs.Inputs.{IsSteppedOver, input_of}
use Rattle.ctl_pass.specs.Passing.{is_idle, jobs_ended, jobs_planned, outcome, pass_after}
use Rattle.ctl_node_side.specs.Silence.{any_silent, failing_count, silenced}

-- the state after a pass
abbrev pub after_pass : State → ℕ → State
after_pass s now = pass_after (silenced s now) now

-- no node falls silent, and nothing else changes
abbrev pub pass_is_idle : State → ℕ → Bool
pass_is_idle s now = not (any_silent s now) && is_idle (silenced s now) now

-- how many jobs a pass takes out of Running: those that fail with their nodes, those past their limits, and those that
-- go for another
abbrev pub ended_by_pass : State → ℕ → ℕ
ended_by_pass s now = failing_count s now + jobs_ended (silenced s now) now

-- what a pass makes
abbrev pub made_by_pass : State → ℕ → Verdict
made_by_pass s now =
    if pass_is_idle s now then Stays else
    Makes
    (Passed (ended_by_pass s now) (length (outcome (silenced s now) now).starts)
    (length (outcome (silenced s now) now).stays))
    (after_pass s now)

-- how many jobs it plans
abbrev pub planned_by_pass : State → ℕ → ℕ
planned_by_pass s now = jobs_planned (silenced s now) now

-- what its plan is made of
abbrev pub pass_input : State → ℕ → PlannedView
pass_input s now = input_of (silenced s now) now

-- Over an older plan it counts at most one step for each job that it plans and that doesn't stand as it stood there.
abbrev pub IsPassedOver : PlannedView → State → ℕ → ℕ → ℕ → Type 0
IsPassedOver old s now before after = IsSteppedOver old (silenced s now) now before after

-- A pass starts jobs alone that nothing hinders, once silent nodes are seen to.
abbrev pub PassIsFree : State → ℕ → Type 0
PassIsFree s now = StartsAreFree (silenced s now) now
