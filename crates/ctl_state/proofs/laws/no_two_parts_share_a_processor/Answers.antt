use Rattle.ctl_state.proofs.Held.{parts-apart}
use Rattle.ctl_state.proofs.laws.no_two_parts_share_a_processor.Goals as goal

pub returns : goal.returns
returns c = parts-apart
