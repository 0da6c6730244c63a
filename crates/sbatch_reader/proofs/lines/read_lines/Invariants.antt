use Rattle.std.proofs.Common.{◌≡◌, ◌+◌, ◌≤◌, fold, length}
use Rattle.std.specs.Option.{option_copied, option_map_or}
use Rattle.small_texts.specs.Fields.{fields_of_rest}
use Rattle.sbatch_reader.specs.Drafts.{after}
use Rattle.sbatch_reader.specs.Lines.{lines_say}
use Rattle.sbatch_reader.proofs.lines.read_lines.Given as goal

abbrev pub decreases-loop-rest : goal.decreases-loop-rest
decreases-loop-rest l = option_map_or (λ r. length r.now + 1) l.rest 0

abbrev pub invariant-loop-rest : goal.invariant-loop-rest
invariant-loop-rest l =
    (fold after l.draft (lines_say l.now l.number (fields_of_rest 10 (option_copied l.rest)))
    ≡ fold after l.initial.draft (lines_say l.now 2 (fields_of_rest 10 (option_copied l.initial.rest))))
    × (l.number + option_map_or (λ r. length r.now + 1) l.rest 0
    ≤ 2 + option_map_or (λ r. length r.now + 1) l.initial.rest 0)
