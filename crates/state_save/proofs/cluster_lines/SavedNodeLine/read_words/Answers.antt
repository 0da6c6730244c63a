use Rattle.std.proofs.Common.{sym, ap, ◌∙◌}
use Rattle.state_save.specs.Lines.{node_in}
use Rattle.state_save.proofs.LineWords.{node_back, reads}
use Rattle.state_save.proofs.cluster_lines.SavedNodeLine.read_words.Goals as goal

pub returns-clause-only : goal.returns-clause-only
returns-clause-only c = λ value fits is.
    reads node_in c.args.line.now value c.read_node.result (ap node_in (sym is) ∙ node_back value fits) c.read_node.ensures.value c.read_node.ensures.refused
