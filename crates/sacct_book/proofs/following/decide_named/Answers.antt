use Rattle.std.proofs.Common.{◌≡◌, ◌∙◌, ap, arith}
use Rattle.ctl_core.specs.Step.{state_after}
use Rattle.ctl_core.specs.Views.{CtlView}
use Rattle.ctl_state.specs.State.{State}
use Rattle.sacct_book.specs.Naming.{run_by_others}
use Rattle.sacct_book.proofs.Keeps.{counted-named, either-way}
use Rattle.sacct_book.proofs.Others.{others-stay}
use Rattle.sacct_book.proofs.following.decide_named.Goals as goal

pub returns-clause-counts : goal.returns-clause-counts
returns-clause-counts c =
    let s = c.args.ctl.now.state in
    let t = c.decide-decided.new.ctl.state in
    let e = c.args.entry.now in
    let named = c.args.named.now in
    let first = c.count_at.new.held in
    let last = c.count_at-2.new.held in
    counted-named s t named c.args.held.now.items first.items last.items c.decide-decided.ensures.sound c.requires.counts
    (omega (arith, c.count_at.ensures.len, first.ok.0, c.args.held.now.ok.0))
    (omega (arith, c.count_at-2.ensures.len, first.ok.0, last.ok.0))
    (λ at. either-way (t ≡ state_after s e.moment e.user e.request) (c.decide-decided.new.ctl ≡ c.args.ctl.now)
    (run_by_others named t.jobs at ≡ run_by_others named s.jobs at) c.decide-decided.result
    c.decide-decided.ensures.after c.decide-decided.ensures.err
    (λ made. ap (λ (one : State). run_by_others named one.jobs at) made
    ∙ others-stay s e.moment e.user e.request named c.requires.named at)
    (λ same. ap (λ (view : CtlView). run_by_others named view.state.jobs at) same))
    (λ at inside. c.count_at.ensures.each at (omega (arith, inside, c.args.held.now.ok.0)))
    (λ at inside. c.count_at-2.ensures.each at (omega (arith, inside, first.ok.0)))
