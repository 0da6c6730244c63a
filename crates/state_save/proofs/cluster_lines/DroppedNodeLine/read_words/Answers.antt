use Rattle.std.proofs.Common.{sym, ap, ◌∙◌}
use Rattle.state_save.specs.Lines.{dropped_in}
use Rattle.state_save.proofs.LineWords.{dropped_back, reads}
use Rattle.state_save.proofs.cluster_lines.DroppedNodeLine.read_words.Goals as goal

pub returns-clause-only : goal.returns-clause-only
returns-clause-only c = λ value fits is.
    reads dropped_in c.args.line.now value c.read_dropped.result (ap dropped_in (sym is) ∙ dropped_back value fits) c.read_dropped.ensures.value c.read_dropped.ensures.refused
