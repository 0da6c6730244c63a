use Rattle.run_limits.proofs.Numbers.{numbers_tell}
use Rattle.run_limits.proofs.account_laws.numbers_tell_users_apart.Goals as goal

pub returns : goal.returns
returns c = numbers_tell
