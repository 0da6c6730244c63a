-- The nodes of a host expression.
use Rattle.std.specs.Prelude.{ℕ, if◌then◌else◌, List, Option, Some, None, is_some, option_and_then}
use Rattle.host_lists.specs.Hosts.{hosts_in, first_bad_item}
use Rattle.text_values.specs.Lists.{few}

-- any number of nodes
unfoldable pub nodes_in : List ℕ → Option (List (List ℕ))
nodes_in text = if is_some (first_bad_item text) then None else Some (hosts_in text)

-- 1,024 nodes at most
unfoldable pub few_nodes_in : List ℕ → Option (List (List ℕ))
few_nodes_in text = option_and_then few (nodes_in text)
