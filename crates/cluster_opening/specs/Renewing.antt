-- A cluster as it stands, opened anew.
use Rattle.std.specs.Prelude.{◌≡◌, ℕ, List, Ok}
use Rattle.plain_data.specs.Assocs.{AssocView}
use Rattle.plain_data.specs.Confs.{ConfView}
use Rattle.assoc_reader.specs.Reader.{assocs_in}
use Rattle.conf_reader.specs.Reader.{conf_in}
use Rattle.saved_data.specs.declared.saved.Saved.{Saved}
use Rattle.ctl_restore.specs.Restored.{restored}
use Rattle.ctl_state.specs.State.{State}

-- the state is restored of what is saved, over what the texts of both files say
pub record IsReopened (conf_text assoc_text : List ℕ) (saved : Saved) (s : State) : Type 0 where
  pub conf : ConfView
  pub file : AssocView
  pub says : conf_in conf_text ≡ Ok conf
  pub tells : assocs_in assoc_text ≡ Ok file
  pub state : s ≡ restored conf file saved
