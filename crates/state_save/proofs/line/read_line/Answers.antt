use Rattle.std.proofs.Common.{◌≡◌, ◌-◌, Some, length, take, rules, sym, ap, ◌∙◌, subst}
use Rattle.std.specs.Prelude.{IfOk}
use Rattle.state_save.specs.Saved.{line_text}
use Rattle.state_save.proofs.Bodies.{body_of}
use Rattle.state_save.proofs.line.read_line.Goals as goal

pub returns-in-None-clause-only : goal.returns-in-None-clause-only
returns-in-None-clause-only g c = λ value fits is.
    let front : take (length c.args.line.now - 1) c.args.line.now ≡ c.split_at.result.0.now = search rules in
    let one = c.in_ok-found.ensures.only value fits (body_of (g.T.Line.words value) c.args.line.now is ∙ front) in
    sym c.in-None.is ∙ one

pub returns-in-Some-clause-only : goal.returns-in-Some-clause-only
returns-in-Some-clause-only g c = λ value fits is.
    let front : take (length c.args.line.now - 1) c.args.line.now ≡ c.split_at.result.0.now = search rules in
    let one : Some c.in-Some.value ≡ Some value = sym c.in-Some.is ∙ c.in_ok-found.ensures.only value fits (body_of (g.T.Line.words value) c.args.line.now is ∙ front) in
    let same : c.in-Some.value ≡ value = cc in
    subst (λ v. IfOk c.keep_if_line.result (λ found. found ≡ Some v)) same
    (c.keep_if_line.ensures.kept (ap (λ v. line_text (g.T.Line.words v)) same ∙ is))
