-- What the words of scontrol ask, the first of which is its name.
use Rattle.std.specs.Prelude.{ℕ, true, false, nat_lt, if◌then◌else◌, List, length, codes, bytes_eq, Option, Some, None, ok_or, Result, Ok, Err}
use Rattle.text_values.specs.Steps.{◌>>=◌}
use Rattle.operands.specs.BadWord.{bad, at_word, given}
use Rattle.operands.specs.Operands.{word_at, closed_at}
use Rattle.operands.specs.declared.bad_word.BadWord.{BadWord}
use Rattle.text_values.specs.declared.word_refusal.WordKind.TheVariants.{MissingWord, StrayWord, UnknownCommand}
use Rattle.request_data.specs.declared.request.Request.{Request}
use Rattle.request_data.specs.declared.request.Request.TheVariants.{Show, Shutdown}
use Rattle.scontrol_words.specs.Holding.{hold_by, release_by, requeue_by}
use Rattle.scontrol_words.specs.Reserving.{create_by, delete_by}
use Rattle.scontrol_words.specs.Showing.{show_by}
use Rattle.scontrol_words.specs.Updating.{update_by}
use Rattle.scontrol_words.specs.declared.action.Action.{Action}
use Rattle.scontrol_words.specs.declared.action.Action.TheVariants as action

-- what is done, by its word
unfoldable pub action_named : List ℕ → Option Action
action_named word =
    if bytes_eq word (codes "show") then Some action.Show
    else (if bytes_eq word (codes "hold") then Some action.Hold
    else (if bytes_eq word (codes "uhold") then Some action.UserHold
    else (if bytes_eq word (codes "release") then Some action.Release
    else (if bytes_eq word (codes "requeue") then Some action.Requeue
    else (if bytes_eq word (codes "update") then Some action.Update
    else (if bytes_eq word (codes "create") then Some action.Create
    else (if bytes_eq word (codes "delete") then Some action.Delete
    else (if bytes_eq word (codes "reconfigure") then Some action.Reconfigure
    else (if bytes_eq word (codes "shutdown") then Some action.Shutdown
    else None)))))))))

-- what the second word says is done
unfoldable pub action_in : List (List ℕ) → Result Action BadWord
action_in words = do
  word ← word_at words 1
  at_word 2 (ok_or (action_named word) UnknownCommand)

-- a configuration stands in no word: it is missing behind `reconfigure`, and any other word there is stray
abbrev pub lacking_file : List (List ℕ) → Result Request BadWord
lacking_file words = bad 3 (if nat_lt 2 (length words) then StrayWord else MissingWord)

abbrev pub acted : ℕ → List (List ℕ) → Action → Result Request BadWord
acted now words action.Show = given Show (show_by words)
acted now words action.Hold = hold_by false words
acted now words action.UserHold = hold_by true words
acted now words action.Release = release_by words
acted now words action.Requeue = requeue_by words
acted now words action.Update = update_by words
acted now words action.Create = create_by now words
acted now words action.Delete = delete_by words
acted now words action.Reconfigure = lacking_file words
acted now words action.Shutdown = closed_at words 2 Shutdown

-- what the words ask at the moment `now`, or the first that is bad
unfoldable pub scontrol_by : ℕ → List (List ℕ) → Result Request BadWord
scontrol_by now words = do
  action ← action_in words
  acted now words action
