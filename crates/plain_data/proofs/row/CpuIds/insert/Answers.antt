use Rattle.plain_data.proofs.Words.{has_id-with_set, last-with_set}
use Rattle.plain_data.proofs.row.CpuIds.insert.Goals as goal

pub returns-clause-added : goal.returns-clause-added
returns-clause-added c = λ other. rw (← c.self.view_is) (has_id-with_set c.self.inside.words c.args.number other c.self.told c.requires)

pub returns-clause-last : goal.returns-clause-last
returns-clause-last c = λ low. rw (← c.self.view_is) (last-with_set c.self.inside.words c.args.number c.self.told c.requires (rw (← c.self.view_is) at low))
