use Rattle.std.proofs.Common.{◌≡◌, ◌∷◌, ◌++◌, [], rules, sym, subst}
use Rattle.state_save.specs.Lines.{AreBegun, IsNextLine}
use Rattle.state_save.specs.Saved.{line_text}
use Rattle.state_save.proofs.LineSteps.{begun_more}
use Rattle.state_save.proofs.line.read_lines.Goals as goal

pub loop-values-preserved : goal.loop-values-preserved
loop-values-preserved g c =
    let next : IsNextLine (λ x. line_text (g.T.Line.words x)) g.T.Line.fits g.T.Line.follows c.as_slice.result.now c.loop-values.rest.now
    c.in-Some.value c.in-Some.others.now = search rules in
    let behind = subst (λ b. IsNextLine (λ x. line_text (g.T.Line.words x)) g.T.Line.fits g.T.Line.follows b c.loop-values.rest.now
    c.in-Some.value c.in-Some.others.now) c.as_slice.ensures.value next in
    let pushed : c.push.new.self.items ≡ c.loop-values.values.items ++ c.in-Some.value ∷ [] = search rules in
    subst (λ xs. AreBegun (λ x. line_text (g.T.Line.words x)) g.T.Line.fits g.T.Line.follows c.args.text.now xs c.in-Some.others.now) (sym pushed)
    (begun_more (λ x. line_text (g.T.Line.words x)) g.T.Line.fits g.T.Line.follows c.args.text.now c.loop-values.values.items c.loop-values.rest.now
    c.in-Some.value c.in-Some.others.now c.loop-values.invariant behind)
