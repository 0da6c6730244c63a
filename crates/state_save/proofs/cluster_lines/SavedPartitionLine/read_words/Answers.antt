use Rattle.std.proofs.Common.{sym, ap, ◌∙◌}
use Rattle.state_save.specs.Lines.{partition_in}
use Rattle.state_save.proofs.LineWords.{partition_back, reads}
use Rattle.state_save.proofs.cluster_lines.SavedPartitionLine.read_words.Goals as goal

pub returns-clause-only : goal.returns-clause-only
returns-clause-only c = λ value fits is.
    reads partition_in c.args.line.now value c.read_partition.result (ap partition_in (sym is) ∙ partition_back value fits) c.read_partition.ensures.value c.read_partition.ensures.refused
