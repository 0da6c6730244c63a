use Rattle.std.proofs.Common.{◌≡◌, ◌+◌, [], length}
use Rattle.std.specs.Option.{option_copied, option_map_or}
use Rattle.small_texts.specs.Fields.{fields, fields_of_rest}
use Rattle.sbatch_reader.specs.Description.{last_of}
use Rattle.sbatch_reader.proofs.description.last_part.Given as goal

abbrev pub decreases-loop-rest : goal.decreases-loop-rest
decreases-loop-rest l = option_map_or (λ r. length r.now + 1) l.rest 0

abbrev pub invariant-loop-rest : goal.invariant-loop-rest
invariant-loop-rest l =
    last_of l.part (fields_of_rest 47 (option_copied l.rest)) ≡ last_of [] (fields 47 l.path)
