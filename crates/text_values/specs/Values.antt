-- The values of keys.
use Rattle.std.specs.Prelude.{ℕ, Bool, true, false, if◌then◌else◌, List, codes, bytes_eq, Option, Some, None, option_map}
use Rattle.plain_data.specs.declared.mem_ask.MemAsk.{MemAsk}
use Rattle.plain_data.specs.declared.mem_ask.MemAsk.TheVariants.{PerNode, PerCpu}
use Rattle.plain_data.specs.declared.conf.NodeStart.{NodeStart}
use Rattle.plain_data.specs.declared.conf.NodeStart.TheVariants.{Unknown, Down, Drain}
use Rattle.text_values.specs.Memory.{mem_of}
use Rattle.text_values.specs.Names.{names_in}
use Rattle.text_values.specs.Numbers.{number_in, u32_in}
use Rattle.text_values.specs.Tables.{is_word}

-- how a node begins
unfoldable pub node_start : List ℕ → Option NodeStart
node_start text =
    if is_word (codes "UNKNOWN") text then Some Unknown
    else (if is_word (codes "DOWN") text then Some Down
    else (if is_word (codes "DRAIN") text then Some Drain
    else None))

unfoldable pub yes_or_no : List ℕ → Option Bool
yes_or_no text =
    if is_word (codes "YES") text then Some true
    else (if is_word (codes "NO") text then Some false else None)

-- whether jobs have their nodes for themselves; EXCLUSIVE is written in capitals
unfoldable pub exclusive_in : List ℕ → Option Bool
exclusive_in text =
    if bytes_eq text (codes "EXCLUSIVE") then Some true
    else (if is_word (codes "NO") text then Some false else None)

-- ALL is no limit on the names
unfoldable pub allowed_in : List ℕ → Option (Option (List (List ℕ)))
allowed_in text = if is_word (codes "ALL") text then Some None else option_map Some (names_in text)

-- how many nodes a job may have
unfoldable pub most_nodes : List ℕ → Option (Option ℕ)
most_nodes text = if is_word (codes "UNLIMITED") text then Some None else option_map Some (u32_in text)

-- megabytes without a unit
unfoldable pub mem_per_node : List ℕ → Option MemAsk
mem_per_node text = option_map (mem_of PerNode) (number_in 0 16_777_216 text)

unfoldable pub mem_per_cpu : List ℕ → Option MemAsk
mem_per_cpu text = option_map (mem_of PerCpu) (number_in 0 16_777_216 text)
