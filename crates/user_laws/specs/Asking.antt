-- What is answered to a query.
use Rattle.std.specs.Prelude.{ℕ, nat_lt, if◌then◌else◌, List, Option, Some, None}
use Rattle.request_data.specs.declared.query.Query.{Query}
use Rattle.reply_data.specs.declared.refusal.Refusal.{Refusal}
use Rattle.reply_data.specs.declared.refusal.Refusal.TheVariants.{MomentTooLarge}
use Rattle.reply_data.specs.declared.reply.Reply.{Reply}
use Rattle.reply_data.specs.declared.reply.Reply.TheVariants.{Refused, Shown}
use Rattle.reply_data.specs.declared.view.View.{View}
use Rattle.ctl_state.specs.Refusals.{first_refusal}
use Rattle.ctl_state.specs.State.{State, last_moment}
use Rattle.ctl_show.specs.Showing.{show_refusals, view_of}
use Rattle.ctl_core.specs.Step.{raised}

-- the view, or why there is none
abbrev pub shown_unless : Option Refusal → View → Reply
shown_unless None view = Shown view
shown_unless (Some refusal) view = Refused refusal

-- It is refused past the last moment, or where it names what isn't there; else the view is told. Neither a shutdown nor
-- a history that is full hinders it.
abbrev pub answer_to : State → ℕ → List ℕ → Query → Reply
answer_to s now user query =
    if nat_lt last_moment now then Refused MomentTooLarge else
    shown_unless (first_refusal (show_refusals s query)) (view_of s (raised s now) user query)
