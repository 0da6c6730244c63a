use Rattle.std.proofs.Common.{refl}
use Rattle.std.proofs.lemmas.Result.{on_ok_weaker}
use Rattle.host_lists.proofs.FoundLemmas.{found-added}
use Rattle.host_lists.proofs.found.Found.add.Goals as goal

pub returns-clause-found : goal.returns-clause-found
returns-clause-found c =
    on_ok_weaker c.add_name.result (found-added c.args.self.now (record { names = c.add_name.new.names; known = c.args.self.now.known }) c.args.text.now c.requires.found refl) c.add_name.ensures
