use Rattle.std.proofs.Common.{◌≡◌, length}
use Rattle.std.specs.List.{list_any}
use Rattle.text_values.specs.Arguments.{parts_left}
use Rattle.sbatch_reader.specs.Table.{options}
use Rattle.slurm_top.specs.Scripts.{has_wrap, is_wrap}
use Rattle.slurm_top.proofs.place.has_wrap.Given as goal

abbrev pub decreases-loop-argument : goal.decreases-loop-argument
decreases-loop-argument l = length (parts_left options l.words l.cursor)

abbrev pub invariant-loop-argument : goal.invariant-loop-argument
invariant-loop-argument l = list_any is_wrap (parts_left options l.words l.cursor) ≡ has_wrap l.words
