use Rattle.std.proofs.Common.{◌≡◌, ◌<◌, length, rules, sym, ◌∙◌, arith}
use Rattle.std.proofs.lemmas.Bool.Decides.{nat_tests}
use Rattle.state_save.specs.Lines.{FollowsLast}
use Rattle.state_save.specs.Saved.{line_text}
use Rattle.state_save.proofs.LineSteps.{all_behind_last, cant_follow, last_of_all, next_is}
use Rattle.state_save.proofs.line.next_line.Goals as goal

pub returns-then-follows_last-clause-some : goal.returns-then-follows_last-clause-some
returns-then-follows_last-clause-some g c =
    let some : 0 < length c.args.text.now = grind (arith, nat_tests) in
    let both : g.T.Line.fits c.in-Some.value × (line_text (g.T.Line.words c.in-Some.value) ≡ c.first_line.result.0.now) = search rules in
    let last : FollowsLast g.T.Line.follows c.args.before.now c.in-Some.value = search rules in
    next_is (λ x. line_text (g.T.Line.words x)) g.T.Line.fits g.T.Line.follows c.args.before.now c.args.text.now
    c.first_line.result.0.now c.first_line.result.1.now c.in-Some.value (c.first_line.ensures.lines some) (c.first_line.ensures.shorter some) both.0 both.1
    (λ y fits is. sym c.in-Some.is ∙ c.in_ok-found.ensures.only y fits is)
    (all_behind_last g.T.Line.follows c.args.before.now c.in-Some.value c.requires.order c.tell_lines.ensures.order last)

pub returns-in-Some-clause-none : goal.returns-in-Some-clause-none
returns-in-Some-clause-none g c =
    let some : 0 < length c.args.text.now = grind (arith, nat_tests) in
    let apart : FollowsLast g.T.Line.follows c.args.before.now c.in-Some.value → ⊥ = search rules in
    cant_follow (λ x. line_text (g.T.Line.words x)) g.T.Line.fits g.T.Line.follows c.args.before.now c.args.text.now
    c.first_line.result.0.now c.first_line.result.1.now c.in-Some.value (c.first_line.ensures.lines some)
    (λ y fits is. sym c.in-Some.is ∙ c.in_ok-found.ensures.only y fits is)
    (λ all. apart (last_of_all g.T.Line.follows c.args.before.now c.in-Some.value all))
