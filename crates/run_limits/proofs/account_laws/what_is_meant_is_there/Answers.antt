use Rattle.run_limits.proofs.Meanings.{meant-his, meant-there}
use Rattle.run_limits.proofs.account_laws.what_is_meant_is_there.Goals as goal

pub returns : goal.returns
returns c = record { assoc = meant-his; qos = meant-there }
