-- What is asked one after another: the answers, the state behind them, and whether the history is full in between.
use Rattle.std.specs.Prelude.{◌≡◌, ◌≢◌, true, List, [], ◌∷◌, ◌++◌}
use Rattle.reply_data.specs.declared.refusal.Refusal.TheVariants.{HistoryFull}
use Rattle.reply_data.specs.declared.reply.Reply.TheVariants.{Done, Refused}
use Rattle.request_data.specs.declared.request.Request.{Request}
use Rattle.command_words.specs.declared.header.Meaning.{Meaning}
use Rattle.command_words.specs.declared.header.Meaning.TheVariants.{Asks}
use Rattle.ctl_state.specs.State.{State}
use Rattle.ctl_core.specs.Step.{IsInRange, reply_of}
use Rattle.ctl_session.specs.Meaning.{state_behind}
use Rattle.saved_laws.specs.Kept.{IsInTypes, is_reconfigure}
use Rattle.saved_laws.specs.Rooms.{IsNoFuller}
use Rattle.script_run.specs.Script.{state_behind_all, told_all}

-- it isn't refused for want of room in the history
abbrev pub HasRoom : State → Meaning → Type 0
HasRoom s (Asks asked) = reply_of s asked.moment asked.user asked.request ≢ Refused HistoryFull
HasRoom s meaning = Unit {0}

-- nor is any of them, one after another
abbrev pub HaveRoom : State → List Meaning → Type 0
HaveRoom s [] = Unit {0}
HaveRoom s (meaning ∷ meanings) = HasRoom s meaning × HaveRoom (state_behind s meaning) meanings

-- What is asked in two parts is told what it is told at once, where the second goes on from this state; and the states
-- behind both are the same, but for the room in their histories.
pub record GoesOnFrom (again s : State) (first next : List Meaning) : Type 0 where
  pub told : told_all s (first ++ next) ≡ told_all s first ++ told_all again next
  pub behind : IsNoFuller (state_behind_all s (first ++ next)) (state_behind_all again next)

-- it takes no new slurm.conf: it is none, or isn't done
abbrev pub KeepsConf : State → Meaning → Type 0
KeepsConf s (Asks asked) =
    is_reconfigure asked.request ≡ true → reply_of s asked.moment asked.user asked.request ≢ Done
KeepsConf s meaning = Unit {0}

-- nor does any of them, one after another
abbrev pub KeepConf : State → List Meaning → Type 0
KeepConf s [] = Unit {0}
KeepConf s (meaning ∷ meanings) = KeepsConf s meaning × KeepConf (state_behind s meaning) meanings

-- the request is in its ranges, as its types keep them
abbrev pub KeepsRanges : Request → Type 0
KeepsRanges request = IsInRange request × IsInTypes request

-- what is asked is
abbrev pub AsksInRange : Meaning → Type 0
AsksInRange (Asks asked) = KeepsRanges asked.request
AsksInRange meaning = Unit {0}
