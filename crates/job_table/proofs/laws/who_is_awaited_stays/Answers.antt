use Rattle.job_table.proofs.Awaiting.{awaited-by_number, awaited-changed, awaited-without_others}
use Rattle.job_table.proofs.laws.who_is_awaited_stays.Goals as goal

pub returns : goal.returns
returns c = record {
  number = awaited-by_number;
  changes = awaited-changed;
  others = awaited-without_others;
}
