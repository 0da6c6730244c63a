-- No step changes the associations.
use Rattle.std.proofs.Common.{ℕ, ◌≡◌, List, nat_eq, refl}
use Rattle.std.proofs.lemmas.Bool.{cond_both}
use Rattle.request_data.specs.declared.request.Request.{Request}
use Rattle.ctl_state.specs.State.{State}
use Rattle.ctl_state.specs.Verdicts.{stamped}
use Rattle.ctl_nodes.specs.Failing.{lost_after}
use Rattle.ctl_node_side.specs.Answering.{is_restarted}
use Rattle.ctl_node_side.specs.Silence.{any_silent, without_silent}
use Rattle.ctl_core.specs.Step.{raised, state_after}
use Rattle.step_lemmas.proofs.Making.{ByPass, ByReport, MayMake}
use Rattle.step_lemmas.proofs.Steps.{step_is}

abbrev HasThem : State → State → Type 0
HasThem s after = after.assocs ≡ s.assocs

keeps : (s : State) (now : ℕ) (user : List ℕ) (request : Request) (after : State) → MayMake s now user request after
    → HasThem s after
keeps s now user request after (ByReport report node found) =
    cond_both (is_restarted s report) (stamped now (lost_after s now (nat_eq node))) s (HasThem s) (λ is. refl)
    (λ not. refl)
keeps s now user request after ByPass =
    cond_both (any_silent s now) (without_silent s now) s (HasThem s) (λ is. refl) (λ not. refl)
keeps s now user request after other = refl

pub assocs_stay : (s : State) (now : ℕ) (user : List ℕ) (request : Request)
    → (state_after s now user request).assocs ≡ s.assocs
assocs_stay s now user request =
    step_is (HasThem s) s now user request refl
    (λ reply after is. keeps s (raised s now) user request after is.kind)
