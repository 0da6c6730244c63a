use Rattle.plain_data.proofs.Words.{row-rises, row-small}
use Rattle.plain_data.proofs.row.CpuIds.tell_rising.Goals as goal

pub returns-clause-rising : goal.returns-clause-rising
returns-clause-rising c = rw (← c.self.view_is) (row-rises c.self.inside.words)

pub returns-clause-small : goal.returns-clause-small
returns-clause-small c = rw (← c.self.view_is) (row-small c.self.inside.words)
