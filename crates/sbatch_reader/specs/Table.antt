-- The options of sbatch, as they stand in their table.
use Rattle.std.specs.Prelude.{map}
use Rattle.text_values.specs.Arguments.{Table}
use Rattle.sbatch_reader.specs.declared.table.TheConstants.{OPTIONS}
use Rattle.sbatch_reader.specs.declared.table.FlagOption.{FlagOption}
use Rattle.sbatch_reader.specs.declared.table.ValueOption.{ValueOption}

-- the rows of the table in src/table.rt
unfoldable pub options : Table FlagOption ValueOption
options = map (λ row. (row.0.now, row.1, row.2)) OPTIONS
