-- What is saved opens one state over two files.
use Rattle.std.proofs.Common.{◌≡◌, ℕ, List, sym, ap, ◌∙◌}
use Rattle.saved_data.specs.declared.saved.Saved.{Saved}
use Rattle.ctl_restore.specs.Restored.{restored}
use Rattle.ctl_state.specs.State.{State}
use Rattle.cluster_opening.specs.Renewing.{IsReopened}

pub reopened_once : (conf_text assoc_text : List ℕ) (saved : Saved) (one other : State)
    → IsReopened conf_text assoc_text saved one → IsReopened conf_text assoc_text saved other → one ≡ other
reopened_once conf_text assoc_text saved one other first second =
    let same_conf : first.conf ≡ second.conf = cc (first.says, second.says) in
    let same_file : first.file ≡ second.file = cc (first.tells, second.tells) in
    first.state ∙ ap (λ c. restored c first.file saved) same_conf ∙ ap (λ f. restored second.conf f saved) same_file
    ∙ sym second.state
