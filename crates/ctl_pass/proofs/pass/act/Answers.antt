use Rattle.std.proofs.Common.{◌≡◌, ℕ, List, fold, get_or, map, ap, subst, sym, refl, ◌∙◌}
use Rattle.ctl_state.specs.State.{State, state_of}
use Rattle.ctl_pass.specs.Awaiting.{placements_of}
use Rattle.ctl_state.specs.Events.{become}
use Rattle.ctl_pass.specs.Limits.{timed_out}
use Rattle.ctl_pass.specs.Passing.{begun_in}
use Rattle.ctl_pass.specs.Preempting.{preempted}
use Rattle.ctl_pass.specs.Readiness.{goes, jobs_left, placements, ready}
use Rattle.ctl_pass.specs.Starting.{begun_by}
use Rattle.ctl_pass.specs.Taking.{AreDue, unplanned}
use Rattle.ctl_pass.proofs.Due.{due-now}
use Rattle.ctl_pass.proofs.Passes.{acted}
use Rattle.ctl_pass.proofs.Preempted.{parts-preempted}
use Rattle.ctl_pass.proofs.Readied.{going, gone-empty, timed_out-parts}
use Rattle.ctl_pass.proofs.pass.act.Goals as goal

pub begin-requires-clause-due : goal.begin-requires-clause-due
begin-requires-clause-due c =
    let s = state_of c.args.cluster.now in
    let now = c.args.now in
    let decided = c.requires.decided in
    let can = c.what_is_due_can_start.ensures s now c.requires.sound c.requires.raised c.requires.in_time in
    let due : AreDue (unplanned now (ready s now)) c.args.decided.starts.items =
    record {
      prepared = decided.prepared;
      due = rw decided.starts (due-now s now (jobs_left s now) (placements s now));
      can = rw decided.starts can;
    } in
    let AreAll : State → Type 0 = λ one. AreDue (unplanned now one) c.args.decided.starts.items in
    subst AreAll (sym c.make_ready.ensures.ready) due

pub begin-requires-clause-indexed : goal.begin-requires-clause-indexed
begin-requires-clause-indexed c =
    let s = state_of c.args.cluster.now in
    let now = c.args.now in
    let gone = going c.who_is_awaited_stays.ensures.changes s now in
    let stay = c.parts_stay.ensures.stay s.jobs (timed_out now) (goes s now)
    (λ k d below. timed_out-parts now (get_or s.jobs k d))
    (λ k d below. gone-empty now (goes s now) (get_or s.jobs k d) gone (c.requires.sound.jobs k d below).parts) in
    rw (c.make_ready.ensures.held, ap (λ (one : State). one.jobs) c.make_ready.ensures.ready, stay) c.requires.indexed

pub returns-clause-after : goal.returns-clause-after
returns-clause-after c =
    let s = state_of c.args.cluster.now in
    let now = c.args.now in
    let starts = c.args.decided.starts.items in
    let gone = c.args.decided.gone.items in
    let begun : State → State = λ one. record one {
      jobs = fold (begun_by one.nodes now) one.jobs (placements_of starts);
    } in
    let planned : State → State = λ one. record one { plan = c.args.decided.stays.items } in
    let let_go : List ℕ → State → State = λ some one. become now (map (preempted now some) one.jobs) one in
    let is : planned (state_of c.begin.new.cluster) ≡ begun_in s now =
    ap planned c.begin.ensures.after ∙ ap (λ one. planned (begun one)) c.make_ready.ensures.ready
    ∙ acted s now c.args.decided c.requires.decided in
    let records = c.preempt.ensures.records ∙ ap (λ some. map (preempted now some) c.begin.new.cluster.jobs.records) c.deref.ensures.value in
    rw (c.preempt.ensures.charges.usage, records) refl
    ∙ ap (let_go gone) is
    ∙ ap (λ some. let_go some (begun_in s now)) c.requires.decided.gone

pub returns-clause-indexed : goal.returns-clause-indexed
returns-clause-indexed c =
    rw (c.preempt.ensures.records, parts-preempted c.args.now c.deref.result.now c.begin.new.cluster.jobs.records)
    c.begin.ensures.indexed
