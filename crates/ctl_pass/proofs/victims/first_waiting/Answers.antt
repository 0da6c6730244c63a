use Rattle.std.proofs.Common.{◌≡◌, ◌+◌, Bool, true, false, not, cond, drop, Some, sym, ◌∙◌}
use Rattle.std.specs.Prelude.{find}
use Rattle.backfill_planner.specs.declared.job.PlanJob.{PlanJob}
use Rattle.ctl_pass.specs.Awaiting.{placements_of}
use Rattle.ctl_pass.specs.Preempting.{is_among}
use Rattle.ctl_pass.proofs.Serving.{found-here}
use Rattle.ctl_pass.proofs.victims.first_waiting.Goals as goal

pub returns-then-not-contains : goal.returns-then-not-contains
returns-then-not-contains c =
    let starts = placements_of c.args.starts.now in
    let need = c.need-item.result in
    let test : PlanJob → Bool = λ job. not (is_among starts job) in
    let among : is_among starts need ≡ false =
    sym (c.in_ok-started.ensures need.id) ∙ sym c.contains.ensures ∙ c.if-not-contains.true in
    let here : cond (not (is_among starts need)) (Some need) (find test (drop (c.loop-need.need-index + 1) c.args.ranked.now))
    ≡ find test c.args.ranked.now =
    found-here test c.args.ranked.now c.loop-need.need-index need c.loop-need-test.true c.need-item.is
    c.loop-need.invariant in
    rw among at here

pub loop-need-preserved : goal.loop-need-preserved
loop-need-preserved c =
    let starts = placements_of c.args.starts.now in
    let need = c.need-item.result in
    let test : PlanJob → Bool = λ job. not (is_among starts job) in
    let among : is_among starts need ≡ true =
    sym (c.in_ok-started.ensures need.id) ∙ sym c.contains.ensures ∙ c.if-not-contains.false in
    let here : cond (not (is_among starts need)) (Some need) (find test (drop (c.loop-need.need-index + 1) c.args.ranked.now))
    ≡ find test c.args.ranked.now =
    found-here test c.args.ranked.now c.loop-need.need-index need c.loop-need-test.true c.need-item.is
    c.loop-need.invariant in
    rw among at here
