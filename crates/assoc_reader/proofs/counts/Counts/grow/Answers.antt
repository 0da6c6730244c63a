use Rattle.std.proofs.Common.{refl, is_ok}
use Rattle.assoc_reader.proofs.IndexLemmas.{count-grown}
use Rattle.assoc_reader.proofs.counts.Counts.grow.Goals as goal

pub returns-clause-still : goal.returns-clause-still
returns-clause-still c = λ assocs is. count-grown c.args.self.now _ (is_ok c.push.result) assocs refl refl c.push.ensures.items is
