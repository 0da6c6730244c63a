-- A host expression of too many names.
use Rattle.std.proofs.Common.{ℕ, ◌≡◌, ◌<◌, Bool, true, false, nat_le, if◌then◌else◌, List, length, Some, None, option_and_then, refl, arith}
use Rattle.std.specs.Option.{is_some}
use Rattle.std.proofs.lemmas.Bool.Decides.{nat_tests}
use Rattle.host_lists.specs.Hosts.{hosts_in, first_bad_item}
use Rattle.text_values.specs.Lists.{few}
use Rattle.text_values.specs.Nodes.{nodes_in, few_nodes_in}

pub too_many : (text : List ℕ) → 1024 < length (hosts_in text) → few_nodes_in text ≡ None
unfolding few_nodes_in nodes_in
too_many text many = by_bad (is_some (first_bad_item text)) where
  more : nat_le (length (hosts_in text)) 1024 ≡ false
  more = grind (arith, nat_tests)

  by_bad : (t : Bool) → option_and_then few (if t then None else Some (hosts_in text)) ≡ None
  by_bad true = refl
  by_bad false = rw more refl
