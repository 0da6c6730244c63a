-- States of partitions.
use Rattle.std.specs.Prelude.{ℕ, if◌then◌else◌, List, codes, Option, Some, None}
use Rattle.plain_data.specs.declared.conf.PartState.{PartState}
use Rattle.plain_data.specs.declared.conf.PartState.TheVariants.{Up, Down, Drain, Inactive}
use Rattle.text_values.specs.Tables.{is_word}

-- what a partition does with jobs
unfoldable pub part_state : List ℕ → Option PartState
part_state text =
    if is_word (codes "UP") text then Some Up
    else (if is_word (codes "DOWN") text then Some Down
    else (if is_word (codes "DRAIN") text then Some Drain
    else (if is_word (codes "INACTIVE") text then Some Inactive
    else None)))
