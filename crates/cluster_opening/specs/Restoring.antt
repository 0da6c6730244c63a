-- What two files and the text of a saved state open.
use Rattle.std.specs.Prelude.{◌≡◌, ◌⊎◌, ℕ, ◌<◌, ◌≤◌, List, length, Option, Some, None, Result, Ok, Err}
use Rattle.plain_data.specs.Assocs.{AssocView}
use Rattle.plain_data.specs.Confs.{ConfView}
use Rattle.saved_data.specs.Sizes.{longest_text}
use Rattle.saved_data.specs.declared.saved.Saved.{Saved}
use Rattle.state_save.specs.Reading.{IsFirstBadLine}
use Rattle.state_save.specs.Savable.{IsSavable}
use Rattle.state_save.specs.Saved.{saved_text}
use Rattle.ctl_restore.specs.Fits.{Fits, IsRestored}
use Rattle.ctl_state.specs.State.{State, opening}
use Rattle.cluster_opening.specs.Cluster.{cluster_in}
use Rattle.cluster_opening.specs.declared.cluster_files.ClusterFiles.{ClusterFiles}
use Rattle.cluster_opening.specs.declared.refusal.BadFile.TheVariants as bad_file
use Rattle.cluster_opening.specs.declared.refusal.ClusterRefusal.{ClusterRefusal}
use Rattle.cluster_opening.specs.declared.refusal.ClusterRefusal.TheVariants.{Bad}

-- This is the text of a saved state, and no longer than one may be.
pub record IsSavedText (text : List ℕ) (saved : Saved) : Type 0 where
  pub savable : IsSavable saved
  pub short : length text ≤ longest_text
  pub spelled : text ≡ saved_text saved

-- The text of no saved state: the line is its first bad one, and 0 where it is too long.
pub record IsBadAt (text : List ℕ) (line : ℕ) : Type 0 where
  pub long : longest_text < length text → line ≡ 0
  pub short : length text ≤ longest_text → IsFirstBadLine text line

-- a text of a saved state that doesn't fit the cluster is refused as a whole
abbrev pub IsUnfit : ConfView → AssocView → List ℕ → ℕ → Type 0
IsUnfit conf assocs text line =
    (line ≡ 0) × ((saved : Saved) × IsSavedText text saved × (Fits conf assocs saved → ⊥))

-- What comes of a text of a saved state, over what both files say: the state restored of it, or the line of its refusal.
abbrev pub Restores : ConfView → AssocView → List ℕ → Result State ClusterRefusal → Type 0
Restores conf assocs text (Ok s) = (saved : Saved) × IsSavedText text saved × IsRestored conf assocs saved s
Restores conf assocs text (Err (Bad (bad_file.State line))) = IsBadAt text line ⊎ IsUnfit conf assocs text line
Restores conf assocs text (Err refusal) = ⊥

-- what comes of what both files say, and of the text of a saved state, where there is one
abbrev pub Begins : Result (ConfView × AssocView) ClusterRefusal → Option (List ℕ) → Result State ClusterRefusal → Type 0
Begins (Err refusal) state opened = opened ≡ Err refusal
Begins (Ok both) None opened = opened ≡ Ok (opening both.0 both.1)
Begins (Ok both) (Some text) opened = Restores both.0 both.1 text opened

-- What slurm.conf, the association file and the text of a saved state open: the state before any request, or a refusal.
-- One of slurm.conf comes first, then one of the association file, then one of the saved state.
abbrev pub AreOpenedBy : List ℕ → List ℕ → Option (List ℕ) → Result State ClusterRefusal → Type 0
AreOpenedBy conf assocs state opened = Begins (cluster_in conf assocs) state opened

-- the state before any request, or that restored of a saved one
abbrev pub IsBegun : ConfView → AssocView → Option Saved → State → Type 0
IsBegun conf assocs None s = s ≡ opening conf assocs
IsBegun conf assocs (Some saved) s = IsRestored conf assocs saved s

-- These files are good, and open the cluster in this state.
pub record OpensIn (files : ClusterFiles) (s : State) : Type 0 where
  pub conf_view : ConfView
  pub assoc_view : AssocView
  pub says : cluster_in files.conf.items files.assocs.items ≡ Ok (conf_view, assoc_view)
  pub begun : IsBegun conf_view assoc_view files.saved s
