-- What is saved of a state is by the rules where the state is.
use Rattle.std.specs.Prelude.{All}
use Rattle.std.proofs.Common.{ℕ, ◌≡◌, ◌≤◌, List, length, subst, sym}
use Rattle.std.proofs.lemmas.List.Elements.{All-map}
use Rattle.ctl_state.specs.State.{State}
use Rattle.ctl_saved.specs.Saving.{StandsInOrder, saved_job, saved_of}
use Rattle.cluster_opening.specs.Restoring.{IsSavedText}
use Rattle.saved_data.specs.Order.{IsInOrder}
use Rattle.saved_data.specs.Sizes.{longest_text}
use Rattle.saved_data.specs.declared.job.SavedJob.{SavedJob}
use Rattle.saved_data.specs.declared.saved.Saved.{Saved}
use Rattle.saved_rules.specs.Rules.{IsByRules, TermsByRules}
use Rattle.state_save.specs.Savable.{IsSavable}
use Rattle.script_run.specs.Behind.{AreByRules, saved_state}

terms_by_rules : (s : State) → AreByRules s → All (λ (job : SavedJob). TermsByRules job.terms) (saved_of s).jobs
unfolding saved_of saved_job
terms_by_rules s by = All-map (λ (job : SavedJob). TermsByRules job.terms) (saved_job s.partitions s.nodes) s.jobs by

-- what is saved of a state has a text, where the state stands in order and is by the rules
pub savable_by_rules : (s : State) (saved : Saved) → saved ≡ saved_of s → (StandsInOrder s → IsInOrder saved)
    → (IsByRules saved → IsSavable saved) → StandsInOrder s → AreByRules s → IsSavable (saved_of s)
savable_by_rules s saved is ordered savable order by =
    let all : All (λ (job : SavedJob). TermsByRules job.terms) saved.jobs =
    subst (λ (one : Saved). All (λ (job : SavedJob). TermsByRules job.terms) one.jobs) (sym is) (terms_by_rules s by) in
    subst IsSavable is (savable (record { order = ordered order; terms = all }))

-- and the text that is made of it is read again
pub read_again : (s : State) (text : List ℕ) → text ≡ saved_state s → length text ≤ longest_text
    → (StandsInOrder s → AreByRules s → IsSavable (saved_of s)) → StandsInOrder s → AreByRules s
    → IsSavedText text (saved_of s)
unfolding saved_state
read_again s text is short savable order by = record { savable = savable order by; short = short; spelled = is }
