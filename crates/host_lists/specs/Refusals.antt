-- What is told of a host expression that was refused.
use Rattle.std.specs.Prelude.{ℕ, List, ◌++◌, codes, decimal}
use Rattle.host_lists.specs.declared.hosts.HostRefusal.{HostRefusal}
use Rattle.host_lists.specs.declared.hosts.HostRefusal.TheVariants.{BadHosts, TooMany, Memory}

abbrev pub host_message : HostRefusal → List ℕ
host_message (BadHosts place) = codes "bad host expression at byte " ++ decimal place
host_message TooMany = codes "too many hosts"
host_message Memory = codes "out of memory"
