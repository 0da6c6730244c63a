-- Texts that were read of files, and what is found of them.
use Rattle.std.specs.Prelude.{◌≡◌, ℕ, List, Option, Some, None, IsSomeAnd, Vec, Result, Ok, Err}
use Rattle.saved_data.specs.declared.saved.Saved.{Saved}
use Rattle.ctl_state.specs.State.{State}
use Rattle.cluster_opening.specs.Restoring.{AreOpenedBy, IsSavedText, OpensIn}
use Rattle.cluster_opening.specs.declared.files.Files.{Files}
use Rattle.cluster_opening.specs.declared.refusal.BadFile.TheVariants as bad_file
use Rattle.cluster_opening.specs.declared.refusal.ClusterRefusal.{ClusterRefusal}
use Rattle.cluster_opening.specs.declared.refusal.ClusterRefusal.TheVariants.{Bad, Memory}

-- the bytes that were read, if any
abbrev pub bytes_read : {Z : Type 0} → Option (Vec ℕ Z) → Option (List ℕ)
bytes_read None = None
bytes_read (Some bytes) = Some bytes.items

-- a saved state was read, of a text where there is one
abbrev pub IsTextRead : {Z : Type 0} → Option (Vec ℕ Z) → Option Saved → Type 0
IsTextRead None saved = saved ≡ None
IsTextRead (Some bytes) saved = IsSomeAnd saved (λ one. IsSavedText bytes.items one)

-- the refusal is that of a line of the saved state of which this holds, or want of memory
abbrev pub IsOfState : ClusterRefusal → (ℕ → Type 0) → Type 0
IsOfState (Bad (bad_file.State line)) holds = holds line
IsOfState Memory holds = Unit {0}
IsOfState refusal holds = ⊥

-- what the texts open
abbrev pub AreOpened : Files → Result State ClusterRefusal → Type 0
AreOpened files opened = AreOpenedBy files.conf.items files.assocs.items (bytes_read files.state) opened

-- The texts open a cluster, and with the saved state that was read of them they are good files; or they are refused so,
-- but for want of memory.
abbrev pub IsJudged : Files → Result (Option Saved) ClusterRefusal → Type 0
IsJudged files (Ok saved) =
    (s : State) × AreOpened files (Ok s) × OpensIn (record { conf = files.conf; assocs = files.assocs; saved = saved }) s
IsJudged files (Err Memory) = Unit {0}
IsJudged files (Err (Bad bad)) = AreOpened files (Err (Bad bad))
