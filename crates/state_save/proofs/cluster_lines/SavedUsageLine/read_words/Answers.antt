use Rattle.std.proofs.Common.{sym, ap, ◌∙◌}
use Rattle.state_save.specs.Lines.{usage_in}
use Rattle.state_save.proofs.LineWords.{usage_back, reads}
use Rattle.state_save.proofs.cluster_lines.SavedUsageLine.read_words.Goals as goal

pub returns-clause-only : goal.returns-clause-only
returns-clause-only c = λ value fits is.
    reads usage_in c.args.line.now value c.read_usage.result (ap usage_in (sym is) ∙ usage_back value fits) c.read_usage.ensures.value c.read_usage.ensures.refused
