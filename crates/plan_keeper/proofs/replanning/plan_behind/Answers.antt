use Rattle.std.proofs.Common.{◌≡◌, ◌<◌, ◌≤◌, ◌+◌, ◌-◌, ℕ, false, length, All, arith, ap, subst, sym, ◌∙◌}
use Rattle.std.proofs.lemmas.Grind.{common_steps}
use Rattle.backfill_planner.specs.declared.Placed.{Placed}
use Rattle.backfill_planner.specs.Bases.{BaseView}
use Rattle.backfill_planner.specs.Placements.{AreParts}
use Rattle.backfill_planner.specs.Plans.{PlanningView, plan_of}
use Rattle.plan_keeper.specs.Marks.{met_from, AreCounts, AreMarks}
use Rattle.plan_keeper.specs.Turns.{HasStepped}
use Rattle.plan_keeper.proofs.Parting.{passed-marks}
use Rattle.plan_keeper.proofs.Rest.{parted-marks, parted-counts}
use Rattle.plan_keeper.proofs.Stepping.{stepped-more, stepped-all}
use Rattle.plan_keeper.proofs.replanning.plan_behind.Goals as goal

pub returns-in_err-list-clause-steps : goal.returns-in_err-list-clause-steps
returns-in_err-list-clause-steps g c = λ start before.
    let planning = c.args.passed.planning in
    let few : c.args.passed.index ≤ length planning.ranked = omega (arith, c.requires.passed.index, c.requires.passed.has.passed.few_new) in
    stepped-all c.args.old.now planning.base planning.ranked planning.moment c.args.passed.index (length planning.ranked) start c.args.steps.now few before

pub returns-in_err-marks-clause-steps : goal.returns-in_err-marks-clause-steps
returns-in_err-marks-clause-steps g c = λ start before.
    let planning = c.args.passed.planning in
    let few : c.args.passed.index ≤ length planning.ranked = omega (arith, c.requires.passed.index, c.requires.passed.has.passed.few_new) in
    stepped-all c.args.old.now planning.base planning.ranked planning.moment c.args.passed.index (length planning.ranked) start c.args.steps.now few before

pub loop-index-init : goal.loop-index-init
loop-index-init g c =
    let old = c.args.old.now in
    let planning = c.args.passed.planning in
    let same = c.in_ok-marks.marks.unchanged.nodes.items in
    let from : ℕ → PlanningView = λ done. record { base = planning.base; ranked = planning.ranked; moment = planning.moment; done = done } in
    let place = c.args.passed.before in
    let kept = c.args.passed.kept in
    let level = c.args.passed.level.nodes.items in
    let passed = c.requires.passed.has in
    let rest = length c.ranked.result.now - place in
    let nodes : length c.as_slice-nodes.result.now ≡ length planning.base.rooms = ap (λ some. length some) (c.as_slice-nodes.ensures ∙ ap (λ (b : BaseView). b.rooms) (c.behind-planning.view_is ∙ c.base.ensures)) in
    let whole : place + rest ≡ length old.ranked = omega (arith, ap (λ some. length some) c.ranked.ensures.value, passed.passed.few) in
    let told = c.in_ok-marks.ensures.unchanged in
    let long : length same ≡ length planning.base.rooms = c.in_ok-marks.ensures.long ∙ passed.kept.long in
    record {
      parts = ap from (sym c.requires.passed.index);
      marks = rw (c.in_ok-marks.ensures.met, c.in_ok-list.ensures.first, c.requires.passed.index) (parted-marks old planning place same rest (passed-marks c.planner_laws.ensures old planning place kept.same.seconds.items kept.no_freer.seconds.items level same passed c.in_ok-marks.ensures.long told));
      counts = rw (c.in_ok-marks.ensures.counts, c.in_ok-marks.ensures.met, c.in_ok-list.ensures.first, c.requires.passed.index, nodes) (parted-counts old planning place (length planning.base.rooms) rest same passed.passed.few whole
          (λ node inside marked. sym (passed.levels.alike node inside ((told node false (omega (arith, inside, passed.kept.long))).0 marked).1)));
      steps = λ start before. before;
    }

pub returns-in_err-planning-clause-steps : goal.returns-in_err-planning-clause-steps
returns-in_err-planning-clause-steps g c = λ start before.
    let old = c.args.old.now in
    let planning = c.args.passed.planning in
    let index = c.loop-index.index in
    let was = c.loop-index.invariant in
    let more : HasStepped old planning.base planning.ranked planning.moment (index + 1) start c.turn.new.steps = stepped-more old planning.base planning.ranked planning.moment index c.loop-index.planning start c.loop-index.steps c.turn.new.steps was.parts (was.steps start before) c.turn.ensures.steps in
    let below : index < length planning.ranked = grind (arith, common_steps) in
    stepped-all old planning.base planning.ranked planning.moment (index + 1) (length planning.ranked) start c.turn.new.steps (omega (arith, below)) more

pub loop-index-preserved : goal.loop-index-preserved
loop-index-preserved g c =
    let old = c.args.old.now in
    let planning = c.args.passed.planning in
    let index = c.loop-index.index in
    let was = c.loop-index.invariant in
    let first = c.in_ok-list.list.first in
    let marks = c.turn.new.marks in
    record {
      parts = c.in_ok-planning.ensures.next ∙ ap (λ (v : PlanningView). record { base = v.base; ranked = v.ranked; moment = v.moment; done = v.done + 1 }) was.parts;
      marks = subst (λ (v : PlanningView). AreMarks old v.base v.ranked v.moment (v.done + 1) marks.unchanged.nodes.items (met_from first marks.met.items)) was.parts c.in_ok-planning.ensures.marks;
      counts = subst (λ (v : PlanningView). AreCounts old.ranked v.ranked first (v.done + 1) (length v.base.rooms) marks.unchanged.nodes.items marks.counts.items marks.met.items) was.parts c.in_ok-planning.ensures.counts;
      steps = λ start before. stepped-more old planning.base planning.ranked planning.moment index c.loop-index.planning start c.loop-index.steps c.turn.new.steps was.parts (was.steps start before) c.turn.ensures.steps;
    }

pub returns-clause-apart : goal.returns-clause-apart
returns-clause-apart g c =
    subst (λ (v : PlanningView). All (λ (placed : Placed). AreParts v.base.rooms placed.parts) (plan_of v.base v.ranked v.moment)) c.loop-index.invariant.parts c.finish-2.ensures.apart

pub returns-clause-steps : goal.returns-clause-steps
returns-clause-steps g c = λ start before.
    let planning = c.args.passed.planning in
    let all : length c.ranked-jobs.result.now ≡ length planning.ranked = ap (λ some. length some) c.ranked-jobs.ensures.value in
    let jobs : c.loop-index.index ≡ length planning.ranked = omega (arith, all, c.loop-index-test.false, c.loop-index.auto.index, c.loop-index.auto.index-end, c.requires.passed.index, c.requires.passed.has.passed.few_new) in
    rw (← jobs) (c.loop-index.invariant.steps start before)
