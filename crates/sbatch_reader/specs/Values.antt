-- The values of options.
use Rattle.std.specs.Prelude.{ℕ, if◌then◌else◌, List, [], ◌∷◌, Option, Some, None, option_map}
use Rattle.std.specs.Str.{byte}
use Rattle.small_texts.specs.Fields.{fields}
use Rattle.small_texts.specs.Memory.{megabytes_of}
use Rattle.small_texts.specs.Name.{is_job_name}
use Rattle.small_texts.specs.Options.{◌>>=◌}
use Rattle.plain_data.specs.declared.mem_ask.MemAsk.{MemAsk}
use Rattle.plain_data.specs.declared.mem_ask.MemAsk.TheVariants.{PerNode, PerCpu}
use Rattle.text_values.specs.Memory.{mem_of}
use Rattle.text_values.specs.Numbers.{number_in}
use Rattle.sbatch_reader.specs.declared.values.NodeRange.{NodeRange}

abbrev pub job_name_in : List ℕ → Option (List ℕ)
job_name_in text = if is_job_name text then Some text else None

-- how many nodes, by the fields at a dash: one number is the least and the most
unfoldable pub node_range_of : List (List ℕ) → Option NodeRange
node_range_of (number ∷ []) = do
  n ← number_in 1 1024 number
  Some (record { least = n; most = n })
node_range_of (least ∷ most ∷ []) = do
  a ← number_in 1 1024 least
  b ← number_in 1 1024 most
  Some (record { least = a; most = b })
node_range_of _ = None

abbrev pub node_range_in : List ℕ → Option NodeRange
node_range_in text = node_range_of (fields (byte "-") text)

-- megabytes, maybe with a unit
unfoldable pub mem_per_node : List ℕ → Option MemAsk
mem_per_node text = option_map (mem_of PerNode) (megabytes_of text)

unfoldable pub mem_per_cpu : List ℕ → Option MemAsk
mem_per_cpu text = option_map (mem_of PerCpu) (megabytes_of text)
