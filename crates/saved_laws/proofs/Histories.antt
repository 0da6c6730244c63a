-- Scripts and histories keep what is kept.
use Rattle.std.proofs.Common.{ℕ, ◌≡◌, ◌∙◌, false, List, [], ◌∷◌, All, refl, arith}
use Rattle.std.proofs.lemmas.List.Elements.{All-head, All-tail}
use Rattle.plain_data.specs.Assocs.{AssocView}
use Rattle.request_data.specs.declared.request.Request.{Request}
use Rattle.command_words.specs.declared.header.Meaning.{Meaning}
use Rattle.command_words.specs.declared.header.Meaning.TheVariants.{Asks, Malformed, UnknownCommand, BadWords, BadHeader}
use Rattle.ctl_state.specs.Soundness.{IsSound}
use Rattle.ctl_state.specs.State.{State}
use Rattle.ctl_core.specs.Step.{IsInRange, state_after}
use Rattle.ctl_desk.specs.declared.entry.Entry.{Entry}
use Rattle.ctl_desk.specs.History.{after_all}
use Rattle.ctl_session.specs.Meaning.{state_behind}
use Rattle.ctl_saved.specs.Saving.{StandsInOrder}
use Rattle.saved_laws.specs.Kept.{IsKept, IsKeptOver, in_force, is_reconfigure}
use Rattle.saved_laws.specs.Scripts.{AsksInRange, KeepConf, KeepsConf, KeepsRanges}
use Rattle.script_run.specs.Script.{state_behind_all}
use Rattle.saved_laws.proofs.AllKept.{KeepLaws, force_stays, gone_stays, none_taken, step_kept}

-- each step keeps all sound
abbrev pub StepsSound : Type 0
StepsSound = (s : State) (now : ℕ) (user : List ℕ) (request : Request) → IsSound s → IsInRange request
    → IsSound (state_after s now user request)

behind-kept : StepsSound → KeepLaws → (file : AssocView) (s : State) (meaning : Meaning) → IsSound s
    → AsksInRange meaning → IsKeptOver file s → IsSound (state_behind s meaning) × IsKeptOver file (state_behind s meaning)
behind-kept steps laws file s (Asks asked) sound ranges kept = (
  steps s asked.moment asked.user asked.request sound ranges.0,
  step_kept laws file s asked.moment asked.user asked.request sound ranges kept,
)
behind-kept steps laws file s (Malformed command fault) sound ranges kept = (sound, kept)
behind-kept steps laws file s UnknownCommand sound ranges kept = (sound, kept)
behind-kept steps laws file s (BadWords place) sound ranges kept = (sound, kept)
behind-kept steps laws file s BadHeader sound ranges kept = (sound, kept)

pub script_kept : StepsSound → KeepLaws → (file : AssocView) (s : State) (script : List Meaning) → IsSound s
    → All AsksInRange script → IsKeptOver file s
    → IsSound (state_behind_all s script) × IsKeptOver file (state_behind_all s script)
script_kept steps laws file s [] sound ranges kept = (sound, kept)
script_kept steps laws file s (meaning ∷ meanings) sound ranges kept =
    let behind = behind-kept steps laws file s meaning sound (All-head AsksInRange meaning meanings ranges) kept in
    script_kept steps laws file (state_behind s meaning) meanings behind.0 (All-tail AsksInRange meaning meanings ranges)
    behind.1

pub history_kept : StepsSound → KeepLaws → (file : AssocView) (s : State) (entries : List Entry) → IsSound s
    → All (λ (e : Entry). KeepsRanges e.request) entries → IsKeptOver file s
    → IsSound (after_all s entries) × IsKeptOver file (after_all s entries)
history_kept steps laws file s [] sound ranges kept = (sound, kept)
history_kept steps laws file s (e ∷ es) sound ranges kept =
    let Ranges : Entry → Type 0 = λ e. KeepsRanges e.request in
    let own = All-head Ranges e es ranges in
    history_kept steps laws file (state_after s e.moment e.user e.request) es
    (steps s e.moment e.user e.request sound own.0) (All-tail Ranges e es ranges)
    (step_kept laws file s e.moment e.user e.request sound own kept)

-- the same slurm.conf is in force, and the same nodes are gone
abbrev pub StaysOver : State → State → Type 0
StaysOver s after = (in_force after ≡ in_force s) × (after.gone ≡ s.gone)

behind-over : (s : State) (meaning : Meaning) → KeepsConf s meaning → StaysOver s (state_behind s meaning)
behind-over s (Asks asked) keeps = none_taken s asked.moment asked.user asked.request keeps
behind-over s (Malformed command fault) keeps = (refl, refl)
behind-over s UnknownCommand keeps = (refl, refl)
behind-over s (BadWords place) keeps = (refl, refl)
behind-over s BadHeader keeps = (refl, refl)

pub script_over : (s : State) (script : List Meaning) → KeepConf s script → StaysOver s (state_behind_all s script)
script_over s [] keeps = (refl, refl)
script_over s (meaning ∷ meanings) keeps =
    let one = behind-over s meaning keeps.0 in
    let all = script_over (state_behind s meaning) meanings keeps.1 in
    (all.0 ∙ one.0, all.1 ∙ one.1)

pub history_over : (s : State) (entries : List Entry)
    → All (λ (e : Entry). is_reconfigure e.request ≡ false) entries → StaysOver s (after_all s entries)
history_over s [] others = (refl, refl)
history_over s (e ∷ es) others =
    let Other : Entry → Type 0 = λ e. is_reconfigure e.request ≡ false in
    let own = All-head Other e es others in
    let all = history_over (state_after s e.moment e.user e.request) es (All-tail Other e es others) in (
      all.0 ∙ force_stays s e.moment e.user e.request own,
      all.1 ∙ gone_stays s e.moment e.user e.request own,
    )

-- its arrays and dropped nodes stand in order
pub kept_in_order : (first s : State) → IsKept first s → StandsInOrder s
kept_in_order first s kept = record {
  arrays = λ i j d before below. omega (arith, kept.numbered.rising i j d before below);
  dropped = kept.dropped.ordered;
}
