-- What comes of a request.
use Rattle.std.specs.Prelude.{ℕ}
use Rattle.reply_data.specs.declared.refusal.Refusal.{Refusal}
use Rattle.reply_data.specs.declared.view.View.{View}
use Rattle.reply_data.specs.declared.reply.Reply.{Reply}
use Rattle.reply_data.specs.declared.reply.Reply.TheVariants.{Idle, Shown, Refused}
use Rattle.ctl_state.specs.State.{State}

-- It is refused, tells something, changes nothing but the moment, or makes a reply and a state.
pub data Verdict : Type 0 where
  Refuses : (refusal : Refusal) → Verdict
  Tells : (view : View) → Verdict
  Stays : Verdict
  Makes : (reply : Reply) (after : State) → Verdict

-- the reply to it
abbrev pub reply_by : Verdict → Reply
reply_by (Refuses refusal) = Refused refusal
reply_by (Tells view) = Shown view
reply_by Stays = Idle
reply_by (Makes reply after) = reply

-- a state that an entry of this moment has made
abbrev pub stamped : ℕ → State → State
stamped now s = record s { moment = now }

-- the state that it leaves, before it bears the moment
abbrev pub left_by : State → Verdict → State
left_by s (Refuses refusal) = s
left_by s (Tells view) = s
left_by s Stays = s
left_by s (Makes reply after) = after
