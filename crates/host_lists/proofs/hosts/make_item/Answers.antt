use Rattle.std.proofs.Common.{rules}
use Rattle.host_lists.proofs.ItemLemmas.{one_item, few-one, one_is_named}
use Rattle.host_lists.proofs.hosts.make_item.Goals as goal

pub add-requires-clause-named : goal.add-requires-clause-named
add-requires-clause-named c = one_is_named c.args.item.now c.in-One.text.now c.in-One.ensures c.requires.good

pub returns-in-One-clause-names : goal.returns-in-One-clause-names
returns-in-One-clause-names c =
    rw (one_item c.args.item.now c.in-One.text.now c.in-One.ensures, few-one c.in-One.text.now (one_is_named c.args.item.now c.in-One.text.now c.in-One.ensures c.requires.good)) (search rules)
