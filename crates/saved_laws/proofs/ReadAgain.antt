-- The text of a state is read again, and opens its files in that state.
use Rattle.std.specs.Prelude.{All}
use Rattle.std.proofs.Common.{ℕ, ◌≡◌, List, Ok, sym, subst}
use Rattle.std.proofs.lemmas.List.Elements.{All-weaker}
use Rattle.plain_data.specs.Assocs.{AssocView}
use Rattle.plain_data.specs.Confs.{ConfView}
use Rattle.cluster_opening.specs.Restoring.{IsSavedText, Restores}
use Rattle.ctl_state.specs.Soundness.{IsSound}
use Rattle.ctl_state.specs.State.{State, opening}
use Rattle.ctl_desk.specs.declared.entry.Entry.{Entry}
use Rattle.ctl_desk.specs.History.{after_all}
use Rattle.ctl_saved.specs.Saving.{saved_of}
use Rattle.ctl_restore.specs.Fits.{Fits}
use Rattle.ctl_restore.specs.Restored.{restored}
use Rattle.saved_laws.specs.Kept.{AreFiles, IsKeptOver}
use Rattle.saved_laws.specs.Scripts.{KeepsRanges}
use Rattle.saved_rules.specs.Rules.{RequestByRules}
use Rattle.script_run.specs.Behind.{AreByRules}

-- the text is read as what is saved of the state, and that fits the files and is restored as this state
pub opens_again : (conf : ConfView) (file : AssocView) (s after : State) (text : List ℕ) → IsSavedText text (saved_of s)
    → Fits conf file (saved_of s) → restored conf file (saved_of s) ≡ after → Restores conf file text (Ok after)
opens_again conf file s after text is fits same = (saved_of s, is, record { fits = fits; state = sym same })

-- what histories keep
pub record HistoriesKeep : Type 0 where
  pub opening_kept : (conf : ConfView) (file : AssocView) → AreFiles conf file → IsKeptOver file (opening conf file)
  pub kept : (file : AssocView) (s : State) (entries : List Entry) → IsSound s
      → All (λ (e : Entry). KeepsRanges e.request) entries
      → IsKeptOver file s → IsSound (after_all s entries) × IsKeptOver file (after_all s entries)
  pub opening_ruled : (conf : ConfView) (file : AssocView) → AreByRules (opening conf file)
  pub ruled : (s : State) (entries : List Entry) → All (λ (e : Entry). RequestByRules e.request) entries → AreByRules s
      → AreByRules (after_all s entries)

-- all is kept of a state behind a history, and its jobs are by the rules, where so it was at the beginning
pub behind_history : HistoriesKeep → (file : AssocView) (first : State) (entries : List Entry) (s : State)
    → IsSound first → IsKeptOver file first → AreByRules first
    → All (λ (e : Entry). KeepsRanges e.request × RequestByRules e.request) entries → s ≡ after_all first entries
    → IsKeptOver file s × AreByRules s
behind_history keep file first entries s sound over ruled all is =
    let Both : Entry → Type 0 = λ e. KeepsRanges e.request × RequestByRules e.request in
    let Ranges : Entry → Type 0 = λ e. KeepsRanges e.request in
    let Rules : Entry → Type 0 = λ e. RequestByRules e.request in
    let kept = keep.kept file first entries sound (All-weaker Both Ranges (λ e both. both.0) entries all) over in
    let by_rules = keep.ruled first entries (All-weaker Both Rules (λ e both. both.1) entries all) ruled in
    subst (λ (t : State). IsKeptOver file t × AreByRules t) (sym is) (kept.1, by_rules)

-- so behind one of two files
pub behind_opening : HistoriesKeep → (conf : ConfView) (file : AssocView) (entries : List Entry) (s : State)
    → AreFiles conf file → IsSound (opening conf file)
    → All (λ (e : Entry). KeepsRanges e.request × RequestByRules e.request) entries
    → s ≡ after_all (opening conf file) entries → IsKeptOver file s × AreByRules s
behind_opening keep conf file entries s files sound all is =
    behind_history keep file (opening conf file) entries s sound (keep.opening_kept conf file files)
    (keep.opening_ruled conf file) all is
