use Rattle.ctl_waiting.proofs.Staying.{is_higher-stays, parts_of-stays}
use Rattle.ctl_waiting.proofs.laws.priorities_stay.Goals as goal

pub returns : goal.returns
returns c = record { parts = parts_of-stays; ranks = is_higher-stays }
