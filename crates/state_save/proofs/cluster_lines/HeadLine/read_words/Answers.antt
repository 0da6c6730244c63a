use Rattle.std.proofs.Common.{sym, ap, ◌∙◌}
use Rattle.state_save.specs.Lines.{head_in}
use Rattle.state_save.proofs.LineWords.{head_back, reads}
use Rattle.state_save.proofs.cluster_lines.HeadLine.read_words.Goals as goal

pub returns-clause-only : goal.returns-clause-only
returns-clause-only c = λ value fits is.
    reads head_in c.args.line.now value c.read_head.result (ap head_in (sym is) ∙ head_back value fits) c.read_head.ensures.value c.read_head.ensures.refused
