use Rattle.std.proofs.Common.{◌≡◌, Some, Err, ap, refl}
use Rattle.host_lists.specs.Hosts.{first_bad_item}
use Rattle.text_values.specs.Nodes.{nodes_in, few_nodes_in}
use Rattle.text_values.proofs.nodes.read_few_nodes.Goals as goal

pub returns-in-Err-BadHosts-clause-refused : goal.returns-in-Err-BadHosts-clause-refused
unfolding nodes_in few_nodes_in
returns-in-Err-BadHosts-clause-refused c = λ _.
    let bad : first_bad_item c.args.text.now ≡ Some c.in-Err-BadHosts.field-0-0 =
    (c.in-Err-BadHosts.ensures.refused c.in-Err-BadHosts.field-0-0).0 (ap Err c.in-Err-BadHosts.field-0-is) in
    rw bad refl
