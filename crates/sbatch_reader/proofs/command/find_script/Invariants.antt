use Rattle.std.proofs.Common.{◌≡◌, length}
use Rattle.text_values.specs.Arguments.{parts_left}
use Rattle.sbatch_reader.specs.Table.{options}
use Rattle.sbatch_reader.specs.Said.{command_parts, script_in}
use Rattle.sbatch_reader.proofs.command.find_script.Given as goal

abbrev pub decreases-loop-argument : goal.decreases-loop-argument
decreases-loop-argument l = length (parts_left options l.words l.cursor)

abbrev pub invariant-loop-argument : goal.invariant-loop-argument
invariant-loop-argument l = script_in (parts_left options l.words l.cursor) ≡ script_in (command_parts l.words)
