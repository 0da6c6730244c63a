use Rattle.std.proofs.Common.{sym, ap, ◌∙◌}
use Rattle.state_save.specs.Lines.{array_in}
use Rattle.state_save.proofs.LineWords.{array_back, reads}
use Rattle.state_save.proofs.cluster_lines.SavedArrayLine.read_words.Goals as goal

pub returns-clause-only : goal.returns-clause-only
returns-clause-only c = λ value fits is.
    reads array_in c.args.line.now value c.read_array.result (ap array_in (sym is) ∙ array_back value fits) c.read_array.ensures.value c.read_array.ensures.refused
