use Rattle.std.proofs.Common.{sym, ap, ◌∙◌}
use Rattle.state_save.specs.Lines.{placed_in}
use Rattle.state_save.proofs.LineWords.{placed_back, reads}
use Rattle.state_save.proofs.cluster_lines.SavedPlacedLine.read_words.Goals as goal

pub returns-clause-only : goal.returns-clause-only
returns-clause-only c = λ value fits is.
    reads placed_in c.args.line.now value c.read_placed.result (ap placed_in (sym is) ∙ placed_back value fits) c.read_placed.ensures.value c.read_placed.ensures.refused
