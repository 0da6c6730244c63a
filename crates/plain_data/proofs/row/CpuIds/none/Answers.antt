use Rattle.plain_data.proofs.Words.{row-none, zeros}
use Rattle.plain_data.proofs.row.CpuIds.none.Goals as goal

pub returns : goal.returns
returns c = row-none _ (zeros 16)
