use Rattle.std.proofs.Common.{◌≡◌, ◌∙◌, true, ap, arith, sym}
use Rattle.ctl_state.specs.State.{State}
use Rattle.ctl_core.specs.Step.{reply_of}
use Rattle.sacct_book.specs.Requests.{is_still}
use Rattle.sacct_book.specs.Running.{cpus_run_by}
use Rattle.sacct_book.proofs.Keeps.{counted-all}
use Rattle.sacct_book.proofs.Passes.{still-any}
use Rattle.sacct_book.proofs.following.decide_all.Goals as goal

pub returns-then-still-clause-counts : goal.returns-then-still-clause-counts
returns-then-still-clause-counts c =
    let s = c.args.ctl.now.state in
    let e = c.args.entry.now in
    let still : is_still e.request (reply_of s e.moment e.user e.request) ≡ true =
    sym c.in_ok-still.ensures.still ∙ c.if-still.true in
    λ at inside.
    c.requires.counts at inside
    ∙ sym (ap (λ (t : State). cpus_run_by t.jobs at) c.in_ok-still.ensures.after
    ∙ still-any s e.moment e.user e.request at still)

pub returns-clause-counts : goal.returns-clause-counts
returns-clause-counts c =
    let t = c.decide_still.new.ctl.state in
    counted-all t c.records.result.now c.count_running.new.held.items c.cluster.ensures.sound
    (c.records.ensures.value ∙ ap (λ (one : State). one.jobs) c.cluster.ensures.value)
    (λ at inside.
    c.count_running.ensures.each at
    (omega (arith, inside, c.count_running.ensures.len, c.count_running.new.held.ok.0)))
