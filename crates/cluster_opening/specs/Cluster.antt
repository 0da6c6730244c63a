-- The cluster of a run: what the file slurm.conf and the association file say.
use Rattle.std.specs.Prelude.{ℕ, List, Result, Ok, Err}
use Rattle.plain_data.specs.Assocs.{AssocView}
use Rattle.plain_data.specs.Confs.{ConfView}
use Rattle.assoc_reader.specs.Reader.{assocs_in}
use Rattle.assoc_reader.specs.declared.refusal.AssocRefusal.{AssocRefusal}
use Rattle.assoc_reader.specs.declared.refusal.AssocRefusal.TheVariants as assoc_fault
use Rattle.conf_reader.specs.Reader.{conf_in}
use Rattle.text_values.specs.Steps.{◌>>=◌}
use Rattle.text_values.specs.declared.conf_refusal.ConfRefusal.{ConfRefusal}
use Rattle.text_values.specs.declared.conf_refusal.ConfRefusal.TheVariants as conf_fault
use Rattle.ctl_state.specs.State.{State, opening}
use Rattle.cluster_opening.specs.declared.refusal.ClusterRefusal.{ClusterRefusal}
use Rattle.cluster_opening.specs.declared.refusal.BadFile.TheVariants as bad_file
use Rattle.cluster_opening.specs.declared.refusal.ClusterRefusal.TheVariants.{Bad, Memory}

-- why slurm.conf gives no cluster
abbrev pub of_conf : ConfRefusal → ClusterRefusal
of_conf (conf_fault.At line kind) = Bad (bad_file.Conf line kind)
of_conf conf_fault.Memory = Memory

-- why the association file gives none
abbrev pub of_assocs : AssocRefusal → ClusterRefusal
of_assocs (assoc_fault.At line kind) = Bad (bad_file.Assocs line kind)
of_assocs assoc_fault.Memory = Memory

-- what slurm.conf says
abbrev pub said_of_conf : Result ConfView ConfRefusal → Result ConfView ClusterRefusal
said_of_conf (Ok conf) = Ok conf
said_of_conf (Err refusal) = Err (of_conf refusal)

-- what the association file says
abbrev pub said_of_assocs : Result AssocView AssocRefusal → Result AssocView ClusterRefusal
said_of_assocs (Ok assocs) = Ok assocs
said_of_assocs (Err refusal) = Err (of_assocs refusal)

-- What slurm.conf and the association file say, by their bytes, or why they give no cluster. A fault of slurm.conf comes
-- before one of the association file.
unfoldable pub cluster_in : List ℕ → List ℕ → Result (ConfView × AssocView) ClusterRefusal
cluster_in conf_file assoc_file = do
  conf ← said_of_conf (conf_in conf_file)
  assocs ← said_of_assocs (assocs_in assoc_file)
  Ok (conf, assocs)

-- the state of a cluster before any request
abbrev pub opened_of : Result (ConfView × AssocView) ClusterRefusal → Result State ClusterRefusal
opened_of (Ok both) = Ok (opening both.0 both.1)
opened_of (Err refusal) = Err refusal

-- The state before any request, by the bytes of slurm.conf and of the association file, or why these give none.
unfoldable pub opening_in : List ℕ → List ℕ → Result State ClusterRefusal
opening_in conf_file assoc_file = opened_of (cluster_in conf_file assoc_file)
