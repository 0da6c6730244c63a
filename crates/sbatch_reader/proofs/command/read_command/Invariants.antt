use Rattle.std.proofs.Common.{◌≡◌, length, fold, map}
use Rattle.text_values.specs.Arguments.{parts_left}
use Rattle.sbatch_reader.specs.Table.{options}
use Rattle.sbatch_reader.specs.Drafts.{after}
use Rattle.sbatch_reader.specs.Said.{before_script, command_parts, said_of}
use Rattle.sbatch_reader.proofs.command.read_command.Given as goal

abbrev pub decreases-loop-argument : goal.decreases-loop-argument
decreases-loop-argument l = length (parts_left options l.words l.cursor)

abbrev pub invariant-loop-argument : goal.invariant-loop-argument
invariant-loop-argument l =
    fold after l.draft (map (said_of l.reading) (before_script (parts_left options l.words l.cursor)))
    ≡ fold after l.initial.draft (map (said_of l.reading) (before_script (command_parts l.words)))
