use Rattle.std.proofs.Common.{List, ap, ◌∙◌, take_all, arith}
use Rattle.std.specs.List.{list_any}
use Rattle.sbatch_reader.specs.Array.{names}
use Rattle.sbatch_reader.specs.declared.array.Stretch.{Stretch}
use Rattle.sbatch_reader.proofs.ArrayLemmas.{marked-indices}
use Rattle.sbatch_reader.proofs.array.make_marks.Goals as goal

pub returns-clause-named : goal.returns-clause-named
returns-clause-named c =
    let whole = take_all c.loop-stretch.stretch-index c.args.stretches.now c.loop-stretch-test.false in
    marked-indices c.args.stretches.now c.loop-stretch.marks.items (omega arith) (λ n. c.loop-stretch.invariant.1 n ∙ ap (λ (xs : List Stretch). list_any (λ (stretch : Stretch). names stretch n) xs) whole)
