use Rattle.std.proofs.Common.{◌≡◌, rules, sym, ◌∙◌}
use Rattle.std.specs.List.{count_by}
use Rattle.sbatch_reader.proofs.MarkLemmas.{length-marked}
use Rattle.sbatch_reader.proofs.array.count_marked.Goals as goal

pub returns : goal.returns
returns c =
    let counted : c.count.result ≡ count_by (λ mark. mark) c.args.marks.now = search rules in
    counted ∙ sym (length-marked c.args.marks.now)
