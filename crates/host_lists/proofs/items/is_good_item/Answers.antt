use Rattle.std.proofs.Common.{◌∙◌, sym}
use Rattle.host_lists.specs.Hosts.{made_by}
use Rattle.host_lists.proofs.BracketLemmas.{one_name}
use Rattle.host_lists.proofs.items.is_good_item.Goals as goal

pub returns-in-One : goal.returns-in-One
unfolding made_by
returns-in-One c =
    rw c.in-One.ensures (c.is_name.ensures ∙ sym (one_name c.in-One.name.now))
