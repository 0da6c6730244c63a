-- Files open one cluster, or are refused for one cause.
use Rattle.std.proofs.Common.{◌≡◌, ℕ, ◌-◌, ◌<◌, ◌≤◌, List, length, Option, None, Some, Result, Ok, Err, inl, inr, refl, sym, ap, ◌∙◌, subst, arith}
use Rattle.std.proofs.lemmas.Bool.{cases_lt}
use Rattle.slurm_io.specs.Shelf.{ShelfFile}
use Rattle.plain_data.specs.Assocs.{AssocView}
use Rattle.plain_data.specs.Confs.{ConfView}
use Rattle.saved_data.specs.Sizes.{longest_text}
use Rattle.saved_data.specs.declared.saved.Saved.{Saved}
use Rattle.state_save.specs.Reading.{AgreeFor, IsFirstBadLine}
use Rattle.state_save.specs.Savable.{IsSavable}
use Rattle.state_save.specs.Saved.{saved_text}
use Rattle.ctl_restore.specs.Fits.{Fits}
use Rattle.ctl_restore.specs.Restored.{restored}
use Rattle.ctl_state.specs.State.{State}
use Rattle.plain_data.specs.Files.{Named}
use Rattle.cluster_opening.specs.Cluster.{cluster_in}
use Rattle.cluster_opening.specs.Files.{IsTextIf, Opens}
use Rattle.cluster_opening.specs.Restoring.{AreOpenedBy, Begins, IsBadAt, IsSavedText, Restores}
use Rattle.cluster_opening.specs.declared.refusal.BadFile.TheVariants as bad_file
use Rattle.cluster_opening.specs.declared.refusal.ClusterRefusal.{ClusterRefusal}
use Rattle.cluster_opening.specs.declared.refusal.ClusterRefusal.TheVariants.{Bad, Memory}

-- one text is that of one saved state at the most
abbrev pub AreApart : Type 0
AreApart = (one other : Saved) → IsSavable one → IsSavable other → saved_text one ≡ saved_text other → one ≡ other

-- texts that agree for some lines agree for fewer
fewer : (less more : ℕ) (text other : List ℕ) → less ≤ more → AgreeFor more text other → AgreeFor less text other
fewer less more text other le agree = λ place within. agree place (omega (arith, le, within))

not_later : (text : List ℕ) (line line' : ℕ) → IsFirstBadLine text line → IsFirstBadLine text line' → line < line' → ⊥
not_later text line line' bad bad' less =
    bad.itself bad'.before.0 bad'.before.1
    (fewer line (line' - 1) text (saved_text bad'.before.0) (omega (arith, less)) bad'.before.2)

one_line : (text : List ℕ) (line line' : ℕ) → IsFirstBadLine text line → IsFirstBadLine text line' → line ≡ line'
one_line text line line' bad bad' = elim (cases_lt line line') [
  | inl less ↦ absurd (not_later text line line' bad bad' less)
  | inr least ↦ elim (cases_lt line' line) [
    | inl less' ↦ absurd (not_later text line' line bad' bad less')
    | inr least' ↦ omega (arith, least, least')
  ]
]

one_bad_line : (text : List ℕ) (line line' : ℕ) → IsBadAt text line → IsBadAt text line' → line ≡ line'
one_bad_line text line line' bad bad' = elim (cases_lt longest_text (length text)) [
  | inl long ↦ bad.long long ∙ sym (bad'.long long)
  | inr short ↦ one_line text line line' (bad.short short) (bad'.short short)
]

-- the text of a saved state has no bad line
none_bad : (text : List ℕ) (saved : Saved) (line : ℕ) → IsSavedText text saved → IsBadAt text line → ⊥
none_bad text saved line is bad =
    (bad.short is.short).itself saved is.savable (subst (AgreeFor line text) is.spelled (λ place within. refl))

one_saved : (text : List ℕ) (one other : Saved) → AreApart → IsSavedText text one → IsSavedText text other → one ≡ other
one_saved text one other apart is is' = apart one other is.savable is'.savable (sym is.spelled ∙ is'.spelled)

restores_once : (conf : ConfView) (assocs : AssocView) (text : List ℕ) (one other : Result State ClusterRefusal) → AreApart
    → Restores conf assocs text one → Restores conf assocs text other → one ≡ other
restores_once conf assocs text (Ok s) (Ok t) apart (saved, is, to) (saved', is', to') =
    ap Ok (to.state ∙ ap (restored conf assocs) (one_saved text saved saved' apart is is') ∙ sym to'.state)
restores_once conf assocs text (Ok s) (Err (Bad (bad_file.State line))) apart (saved, is, to) (inl bad) =
    absurd (none_bad text saved line is bad)
restores_once conf assocs text (Ok s) (Err (Bad (bad_file.State line))) apart (saved, is, to) (inr (zero_line, (saved', is', misfit))) =
    absurd (misfit (subst (Fits conf assocs) (one_saved text saved saved' apart is is') to.fits))
restores_once conf assocs text (Ok s) (Err (Bad (bad_file.Conf line kind))) apart first second = absurd second
restores_once conf assocs text (Ok s) (Err (Bad (bad_file.Assocs line kind))) apart first second = absurd second
restores_once conf assocs text (Ok s) (Err Memory) apart first second = absurd second
restores_once conf assocs text (Err (Bad (bad_file.State line))) (Ok t) apart (inl bad) (saved, is, to) =
    absurd (none_bad text saved line is bad)
restores_once conf assocs text (Err (Bad (bad_file.State line))) (Ok t) apart (inr (zero_line, (saved', is', misfit))) (saved, is, to) =
    absurd (misfit (subst (Fits conf assocs) (one_saved text saved saved' apart is is') to.fits))
restores_once conf assocs text (Err (Bad (bad_file.State line))) (Err (Bad (bad_file.State line'))) apart (inl bad) (inl bad') =
    ap (λ l. Err (Bad (bad_file.State l))) (one_bad_line text line line' bad bad')
restores_once conf assocs text (Err (Bad (bad_file.State line))) (Err (Bad (bad_file.State line'))) apart (inl bad) (inr (zero_line, (saved, is, misfit))) =
    absurd (none_bad text saved line is bad)
restores_once conf assocs text (Err (Bad (bad_file.State line))) (Err (Bad (bad_file.State line'))) apart (inr (zero_line, (saved, is, misfit))) (inl bad) =
    absurd (none_bad text saved line' is bad)
restores_once conf assocs text (Err (Bad (bad_file.State line))) (Err (Bad (bad_file.State line'))) apart (inr one) (inr other) =
    ap (λ l. Err (Bad (bad_file.State l))) (one.0 ∙ sym other.0)
restores_once conf assocs text (Err (Bad (bad_file.State line))) (Err (Bad (bad_file.Conf line' kind))) apart first second =
    absurd second
restores_once conf assocs text (Err (Bad (bad_file.State line))) (Err (Bad (bad_file.Assocs line' kind))) apart first second =
    absurd second
restores_once conf assocs text (Err (Bad (bad_file.State line))) (Err Memory) apart first second = absurd second
restores_once conf assocs text (Err (Bad (bad_file.Conf line kind))) other apart first second = absurd first
restores_once conf assocs text (Err (Bad (bad_file.Assocs line kind))) other apart first second = absurd first
restores_once conf assocs text (Err Memory) other apart first second = absurd first

begins_once : (both : Result (ConfView × AssocView) ClusterRefusal) (state : Option (List ℕ))
    (one other : Result State ClusterRefusal) → AreApart → Begins both state one → Begins both state other → one ≡ other
begins_once (Err refusal) state one other apart first second = first ∙ sym second
begins_once (Ok both) None one other apart first second = first ∙ sym second
begins_once (Ok both) (Some text) one other apart first second =
    restores_once both.0 both.1 text one other apart first second

one_state : (files : List ShelfFile) (name : Option (List ℕ)) (state state' : Option (List ℕ))
    → IsTextIf (Some files) name state → IsTextIf (Some files) name state' → state ≡ state'
one_state files None state state' is is' = is ∙ sym is'
one_state files (Some name) None state' is is' = absurd is
one_state files (Some name) (Some text) None is is' = absurd is'
one_state files (Some name) (Some text) (Some text') is is' = sym is ∙ is'

pub files_open_one : (files : List ShelfFile) (named : Named) (one other : Result State ClusterRefusal) → AreApart
    → Opens (Some files) named one → Opens (Some files) named other → one ≡ other
files_open_one files named one other apart first second =
    let confs : first.conf ≡ second.conf = cc (first.is_conf, second.is_conf) in
    let assocs : first.assocs ≡ second.assocs = cc (first.is_assocs, second.is_assocs) in
    let states = one_state files named.state first.state second.state first.is_state second.is_state in
    let opened : AreOpenedBy second.conf second.assocs second.state one =
    subst (λ text. AreOpenedBy second.conf second.assocs text one) states
    (subst (λ text. AreOpenedBy second.conf text first.state one) assocs
    (subst (λ text. AreOpenedBy text first.assocs first.state one) confs first.is_opened)) in
    begins_once (cluster_in second.conf second.assocs) second.state one other apart opened second.is_opened
