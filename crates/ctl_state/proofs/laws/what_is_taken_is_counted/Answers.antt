use Rattle.ctl_state.proofs.Holding.{counts-taken}
use Rattle.ctl_state.proofs.Taken.{times-taken, mem-taken}
use Rattle.ctl_state.proofs.laws.what_is_taken_is_counted.Goals as goal

pub returns : goal.returns
returns c = record { times = times-taken; mem = mem-taken; counts = counts-taken }
