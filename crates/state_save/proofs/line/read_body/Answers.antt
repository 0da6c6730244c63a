use Rattle.std.proofs.Common.{◌≡◌, None, rules, sym, ◌∙◌}
use Rattle.line_words.specs.Words.{first_bad, words_in}
use Rattle.state_save.proofs.Bodies.{written_good, written_back}
use Rattle.state_save.proofs.line.read_body.Goals as goal

pub returns-in-None-clause-only : goal.returns-in-None-clause-only
returns-in-None-clause-only g c = λ value fits is.
    let bad : first_bad c.args.body.now ≡ None → ⊥ = search rules in
    absurd (bad (written_good (g.T.Line.words value) c.args.body.now (c.tell_lines.ensures.words value fits) is))

pub returns-in-Some-clause-only : goal.returns-in-Some-clause-only
returns-in-Some-clause-only g c = λ value fits is.
    let told : c.in-Some.words ≡ words_in c.args.body.now = search rules in
    c.value_of.ensures.only value fits (sym (written_back (g.T.Line.words value) c.args.body.now is) ∙ sym told)
