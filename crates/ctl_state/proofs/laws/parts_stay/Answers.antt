use Rattle.ctl_state.proofs.Added.{parts-added}
use Rattle.ctl_state.proofs.Indexed.{parts-stay}
use Rattle.ctl_state.proofs.laws.parts_stay.Goals as goal

pub returns : goal.returns
returns c = record { stay = parts-stay; added = parts-added }
