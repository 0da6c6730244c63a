-- Scripts, one after another, and over a history that is no fuller.
use Rattle.std.proofs.Common.{◌≡◌, ◌∙◌, List, [], ◌∷◌, ◌++◌, refl, ap, sym}
use Rattle.std.proofs.lemmas.List.{append_assoc}
use Rattle.command_words.specs.declared.header.Meaning.{Meaning}
use Rattle.command_words.specs.declared.header.Meaning.TheVariants.{Asks, Malformed, UnknownCommand, BadWords, BadHeader}
use Rattle.ctl_state.specs.State.{State}
use Rattle.slurm_print.specs.Text.{text_of}
use Rattle.ctl_session.specs.Meaning.{state_behind, status_by, status_told, told}
use Rattle.saved_laws.specs.Rooms.{IsNoFuller}
use Rattle.saved_laws.specs.Scripts.{HasRoom, HaveRoom}
use Rattle.script_run.specs.Script.{state_behind_all, told_all}
use Rattle.saved_laws.proofs.StepsSized.{reply_alike, state_alike}

pub told_goes_on : (s : State) (first next : List Meaning)
    → told_all s (first ++ next) ≡ told_all s first ++ told_all (state_behind_all s first) next
told_goes_on s [] next = refl
told_goes_on s (meaning ∷ meanings) next =
    ap (λ later. told s meaning ++ later) (told_goes_on (state_behind s meaning) meanings next)
    ∙ sym (append_assoc (told s meaning) (told_all (state_behind s meaning) meanings)
    (told_all (state_behind_all (state_behind s meaning) meanings) next))

pub behind_goes_on : (s : State) (first next : List Meaning)
    → state_behind_all s (first ++ next) ≡ state_behind_all (state_behind_all s first) next
behind_goes_on s [] next = refl
behind_goes_on s (meaning ∷ meanings) next = behind_goes_on (state_behind s meaning) meanings next

told-alike : (s t : State) (meaning : Meaning) → IsNoFuller s t → HasRoom s meaning → told t meaning ≡ told s meaning
told-alike s t (Asks asked) alike room =
    ap (text_of asked.request) (reply_alike s t asked.moment asked.user asked.request alike room)
told-alike s t (Malformed command fault) alike room = refl
told-alike s t UnknownCommand alike room = refl
told-alike s t (BadWords place) alike room = refl
told-alike s t BadHeader alike room = refl

pub status_alike : (s t : State) (meaning : Meaning) → IsNoFuller s t → HasRoom s meaning
    → status_told t meaning ≡ status_told s meaning
status_alike s t (Asks asked) alike room =
    ap status_by (reply_alike s t asked.moment asked.user asked.request alike room)
status_alike s t (Malformed command fault) alike room = refl
status_alike s t UnknownCommand alike room = refl
status_alike s t (BadWords place) alike room = refl
status_alike s t BadHeader alike room = refl

behind-alike : (s t : State) (meaning : Meaning) → IsNoFuller s t → HasRoom s meaning
    → IsNoFuller (state_behind s meaning) (state_behind t meaning)
behind-alike s t (Asks asked) alike room = state_alike s t asked.moment asked.user asked.request alike room
behind-alike s t (Malformed command fault) alike room = alike
behind-alike s t UnknownCommand alike room = alike
behind-alike s t (BadWords place) alike room = alike
behind-alike s t BadHeader alike room = alike

pub all_told_alike : (s t : State) (script : List Meaning) → IsNoFuller s t → HaveRoom s script
    → told_all t script ≡ told_all s script
all_told_alike s t [] alike room = refl
all_told_alike s t (meaning ∷ meanings) alike room =
    ap (λ first. first ++ told_all (state_behind t meaning) meanings) (told-alike s t meaning alike room.0)
    ∙ ap (λ later. told s meaning ++ later)
    (all_told_alike (state_behind s meaning) (state_behind t meaning) meanings (behind-alike s t meaning alike room.0) room.1)

pub behind_all_alike : (s t : State) (script : List Meaning) → IsNoFuller s t → HaveRoom s script
    → IsNoFuller (state_behind_all s script) (state_behind_all t script)
behind_all_alike s t [] alike room = alike
behind_all_alike s t (meaning ∷ meanings) alike room =
    behind_all_alike (state_behind s meaning) (state_behind t meaning) meanings (behind-alike s t meaning alike room.0) room.1
