-- What memory is asked for.
use Rattle.std.specs.Prelude.{ℕ, ◌==◌, if◌then◌else◌}
use Rattle.plain_data.specs.declared.mem_ask.MemAsk.{MemAsk}
use Rattle.plain_data.specs.declared.mem_ask.MemAsk.TheVariants.{All}

-- so many megabytes on each node or for each processor; 0 is all memory of each node
abbrev pub mem_of : (ℕ → MemAsk) → ℕ → MemAsk
mem_of ask megabytes = if megabytes == 0 then All else ask megabytes
