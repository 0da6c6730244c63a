use Rattle.std.proofs.Common.{ℕ, zero, suc, List, [], ◌∷◌, take}
use Rattle.ctl_state.specs.State.{State}
use Rattle.ctl_core.specs.Step.{state_after}
use Rattle.ctl_desk.specs.declared.entry.Entry.{Entry}
use Rattle.ctl_desk.specs.History.{IsLegal}
use Rattle.ctl_desk.proofs.laws.a_legal_history_begins_legally.Goals as goal

begins : (s : State) (entries : List Entry) (n : ℕ) → IsLegal s entries → IsLegal s (take n entries)
begins s [] zero legal = tt
begins s [] (suc n) legal = tt
begins s (e ∷ es) zero legal = tt
begins s (e ∷ es) (suc n) legal = (legal.0, begins (state_after s e.moment e.user e.request) es n legal.1)

pub returns : goal.returns
returns c = begins
