use Rattle.std.proofs.Common.{length}
use Rattle.state_save.specs.Lines.{AreBegun}
use Rattle.state_save.specs.Saved.{line_text}
use Rattle.state_save.proofs.line.read_lines.Given as goal

abbrev pub decreases-loop-values : goal.decreases-loop-values
decreases-loop-values g l = length l.rest

abbrev pub invariant-loop-values : goal.invariant-loop-values
invariant-loop-values g l =
    AreBegun (λ x. line_text (g.T.Line.words x)) g.T.Line.fits g.T.Line.follows l.text l.values.items l.rest
