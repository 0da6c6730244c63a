use Rattle.job_table.proofs.Charging.{Charges-nothing, Charges-on}
use Rattle.job_table.proofs.laws.who_leaves_is_charged.Goals as goal

pub returns : goal.returns
returns c = record { nothing = Charges-nothing; on = Charges-on }
