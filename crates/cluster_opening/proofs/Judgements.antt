-- Texts that were judged.
use Rattle.std.proofs.Common.{◌≡◌, ℕ, List, Option, None, Some, Vec, IsSomeAnd, Ok, Err, inl, inr, refl, sym, ap, ◌∙◌, subst}
use Rattle.plain_data.specs.Assocs.{AssocView}
use Rattle.plain_data.specs.Confs.{ConfView}
use Rattle.saved_data.specs.declared.saved.Saved.{Saved}
use Rattle.slurm_io.specs.Shelf.{ShelfFile}
use Rattle.ctl_restore.specs.Restored.{restored}
use Rattle.ctl_state.specs.State.{State, opening}
use Rattle.ctl_desk.specs.Desk.{Seat}
use Rattle.plain_data.specs.Files.{Named}
use Rattle.cluster_opening.specs.Cluster.{cluster_in}
use Rattle.cluster_opening.specs.Files.{IsOpening, IsSeating, IsUnopened, Opens, fresh, of_cluster}
use Rattle.cluster_opening.specs.Judging.{AreOpened, IsJudged, IsOfState, IsTextRead, bytes_read}
use Rattle.cluster_opening.specs.Restoring.{AreOpenedBy, IsBadAt, IsBegun, OpensIn}
use Rattle.cluster_opening.specs.declared.cluster_files.ClusterFiles.{ClusterFiles}
use Rattle.cluster_opening.specs.declared.files.Files.{Files}
use Rattle.cluster_opening.specs.declared.opening.OpenRefusal.{OpenRefusal}
use Rattle.cluster_opening.specs.declared.refusal.BadFile.TheVariants as bad_file
use Rattle.cluster_opening.specs.declared.refusal.ClusterRefusal.{ClusterRefusal}
use Rattle.cluster_opening.specs.declared.refusal.ClusterRefusal.TheVariants.{Bad, Memory}

-- good files with a bad text of a saved state
pub bad_text : {Z : Type 0} (conf assocs : List ℕ) (state : Option (Vec ℕ Z)) (both : ConfView × AssocView) (line : ℕ)
    → cluster_in conf assocs ≡ Ok both → IsSomeAnd state (λ bytes. IsBadAt bytes.items line)
    → AreOpenedBy conf assocs (bytes_read state) (Err (Bad (bad_file.State line)))
bad_text conf assocs None both line says bad = absurd bad
bad_text conf assocs (Some bytes) both line says bad = rw says (inl bad)

-- good files with a saved state that doesn't fit
pub unfit_text : {Z : Type 0} (conf assocs : List ℕ) (state : Option (Vec ℕ Z)) (saved : Option Saved)
    (both : ConfView × AssocView) (line : ℕ) → cluster_in conf assocs ≡ Ok both → IsTextRead state saved
    → (line ≡ 0) × ((s : State) → IsBegun both.0 both.1 saved s → ⊥)
    → AreOpenedBy conf assocs (bytes_read state) (Err (Bad (bad_file.State line)))
unfit_text conf assocs None saved both line says is misfit =
    absurd (misfit.1 (opening both.0 both.1)
    (subst (λ (one : Option Saved). IsBegun both.0 both.1 one (opening both.0 both.1)) (sym is) refl))
unfit_text conf assocs (Some bytes) None both line says is misfit = absurd is
unfit_text conf assocs (Some bytes) (Some saved) both line says is misfit =
    rw says (inr (
      misfit.0,
      (saved, is, λ fits. misfit.1 (restored both.0 both.1 saved) (record { fits = fits; state = refl })),
    ))

-- the refusal of a saved state is that of the files
pub judged_bad : (files : Files) (refusal : ClusterRefusal) (holds : ℕ → Type 0) → IsOfState refusal holds
    → ((line : ℕ) → holds line → AreOpened files (Err (Bad (bad_file.State line)))) → IsJudged files (Err refusal)
judged_bad files (Bad (bad_file.Conf line kind)) holds bad refused = absurd bad
judged_bad files (Bad (bad_file.Assocs line kind)) holds bad refused = absurd bad
judged_bad files (Bad (bad_file.State line)) holds bad refused = refused line bad
judged_bad files Memory holds bad refused = tt

-- no cluster was opened, where the texts that were read are judged so
pub unopened : (told : Option (List ShelfFile)) (named : Named) (before after : ℕ) (files : Files)
    (refusal : ClusterRefusal) (why : OpenRefusal) → why ≡ of_cluster refusal → IsJudged files (Err refusal)
    → (AreOpened files (Err refusal) → Opens told named (Err refusal)) → after ≡ before
    → IsUnopened told named before after why
unopened told named before after files (Bad bad) why is judged opens same =
    subst (IsUnopened told named before after) (sym is) (opens judged, same)
unopened told named before after files Memory why is judged opens same =
    subst (IsUnopened told named before after) (sym is) same

pub same_files : (files other : ClusterFiles) (s : State) → files ≡ other → OpensIn other s → OpensIn files s
same_files files other s is opens = subst (λ (f : ClusterFiles). OpensIn f s) (sym is) opens

-- a desk of good files
pub seated : (told : Option (List ShelfFile)) (named : Named) (before after : ℕ) (files : ClusterFiles) (seat : Seat)
    → IsOpening told named before after (Ok files) → ((s : State) → OpensIn files s → seat ≡ fresh s)
    → IsSeating told named before after (Ok seat)
seated told named before after files seat ((s, opens, good), same) is =
    let e = is s good in
    let o : seat.opening ≡ s = ap (λ (d : Seat). d.opening) e in
    (subst (λ (t : State). Opens told named (Ok t)) (sym o) opens, e ∙ ap fresh (sym o), same)

pub fresh_desk : (seat : Seat) (s : State) (t : State) → t ≡ s → seat ≡ fresh t → seat ≡ fresh s
fresh_desk seat s t same is = is ∙ ap fresh same
