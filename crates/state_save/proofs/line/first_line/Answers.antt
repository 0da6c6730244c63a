use Rattle.std.proofs.Common.{◌∷◌, ◌+◌, sym, ap, ◌∙◌, drop}
use Rattle.state_save.specs.Reading.{lines_of}
use Rattle.state_save.proofs.FirstLines.{first_ended, first_open}
use Rattle.state_save.proofs.line.first_line.Goals as goal

pub returns-in-Some-clause-lines : goal.returns-in-Some-clause-lines
returns-in-Some-clause-lines c = λ some.
    first_ended c.args.text.now c.in-Some.at (sym c.in-Some.ensures.value)
    ∙ ap (λ l. l ∷ lines_of (drop (c.in-Some.at + 1) c.args.text.now)) (sym c.split_at.ensures.front)
    ∙ ap (λ r. c.split_at.result.0.now ∷ lines_of r) (sym c.split_at.ensures.back)

pub returns-in-None-clause-lines : goal.returns-in-None-clause-lines
returns-in-None-clause-lines c = λ some. first_open c.args.text.now (sym c.in-None.ensures.value) some
