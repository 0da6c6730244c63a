use Rattle.std.proofs.Common.{◌≡◌, ◌∙◌, ℕ, List, map, sym, ap, subst, arith, get_or}
use Rattle.std.proofs.lemmas.Result.{on_ok_weaker}
use Rattle.ctl_state.specs.State.{State}
use Rattle.ctl_core.specs.Step.{state_after}
use Rattle.ctl_core.specs.Views.{CtlView}
use Rattle.sacct_book.specs.Keeping.{AllGoOn}
use Rattle.sacct_book.specs.Naming.{changed_by}
use Rattle.sacct_book.specs.Running.{cpus_run_by}
use Rattle.sacct_book.specs.Times.{GoesOn, Times, times_of}
use Rattle.sacct_book.proofs.Keeps.{all_go_on-counted, all_go_on-same, either-way, since-mapped}
use Rattle.sacct_book.proofs.Others.{nothing-changed}
use Rattle.sacct_book.proofs.following.follow_changed.Goals as goal

pub go_on-requires-clause-since : goal.go_on-requires-clause-since
go_on-requires-clause-since c =
    since-mapped c.args.ctl.now.state c.args.entry.now.moment c.make_room.new.timelines.items
    (map times_of c.args.timelines.now.items) c.requires.tells c.make_room.ensures.same c.requires.later

pub returns-then-is_nothing-clause-counts : goal.returns-then-is_nothing-clause-counts
returns-then-is_nothing-clause-counts c =
    let s = c.args.ctl.now.state in
    let t = c.decide.new.ctl.state in
    let e = c.args.entry.now in
    let none = c.is_nothing.ensures c.if-is_nothing.true (changed_by s e.request) c.requires.changed in
    λ at inside.
    c.requires.counts at inside
    ∙ either-way (t ≡ state_after s e.moment e.user e.request) (c.decide.new.ctl ≡ c.args.ctl.now)
    (cpus_run_by s.jobs at ≡ cpus_run_by t.jobs at) c.decide.result c.decide.ensures.after c.decide.ensures.err
    (λ made. sym (ap (λ (one : State). cpus_run_by one.jobs at) made
    ∙ nothing-changed s e.moment e.user e.request none at))
    (λ same. sym (ap (λ (view : CtlView). cpus_run_by view.state.jobs at) same))

pub returns-then-is_nothing-clause-goes : goal.returns-then-is_nothing-clause-goes
returns-then-is_nothing-clause-goes c =
    let s = c.args.ctl.now.state in
    let e = c.args.entry.now in
    let none = c.is_nothing.ensures c.if-is_nothing.true (changed_by s e.request) c.requires.changed in
    on_ok_weaker c.decide.result
    (λ after. all_go_on-same s c.decide.new.ctl.state e.moment (map times_of c.args.timelines.now.items) c.requires.tells
    c.requires.later
    (λ place. ap (λ (one : State). cpus_run_by one.jobs place) after
    ∙ nothing-changed s e.moment e.user e.request none place))
    c.decide.ensures.after

pub returns-clause-goes : goal.returns-clause-goes
returns-clause-goes c =
    let t = c.decide_and_count.new.ctl.state in
    let before = c.make_room.new.timelines in
    let after = c.go_on.new.timelines in
    let held = c.decide_and_count.new.held in
    subst (λ (told : List Times). AllGoOn c.args.entry.now.moment t.jobs told (map times_of after.items))
    c.make_room.ensures.same
    (all_go_on-counted t.jobs c.args.entry.now.moment held.items before.items after.items c.decide_and_count.ensures.counts
    (omega (
      arith,
      c.requires.len,
      c.decide_and_count.ensures.len,
      c.make_room.ensures.len,
      held.ok.0,
      before.ok.0,
    ))
    (omega (arith, c.go_on.ensures.len, before.ok.0, after.ok.0))
    (λ place d inside.
    subst
    (λ (counts : List ℕ). GoesOn c.args.entry.now.moment (get_or counts place 0) (times_of (get_or before.items place d))
    (times_of (get_or after.items place d)))
    c.as_slice.ensures.value
    (c.go_on.ensures.goes place d (omega (arith, inside, before.ok.0)))))
