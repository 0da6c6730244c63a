use Rattle.std.proofs.Common.{◌≡◌, ◌++◌, ◌∷◌, [], rules}
use Rattle.assoc_reader.specs.Qos.{qos_conf}
use Rattle.assoc_reader.proofs.QosLemmas.{list-push}
use Rattle.assoc_reader.proofs.qos_table.QosTable.push.Goals as goal

pub invariant_of-self-2 : goal.invariant_of-self-2
unfolding qos_conf
invariant_of-self-2 c =
    let more : c.push.new.self.items ≡ c.self.inside.qos.items ++ qos_conf c.args.name c.args.words ∷ [] = search rules in
    rw more (list-push c.self.inside.qos.items c.args.name c.args.words c.self.invariant (rw (c.self.view_is) c.requires))
