use Rattle.std.proofs.Common.{◌≤◌, ◌<◌, All, length, append-nil, refl}
use Rattle.std.proofs.lemmas.List.Elements.{All-push}
use Rattle.backfill_planner.specs.declared.job.PlanJob.{PlanJob}
use Rattle.ctl_state.specs.State.{state_of}
use Rattle.ctl_waiting.specs.declared.ranking.Candidate.{Candidate}
use Rattle.ctl_waiting.specs.Candidates.{needs_of}
use Rattle.ctl_waiting.proofs.Needs.{filter_map-more}
use Rattle.ctl_waiting.proofs.ranking.needs_of.Goals as goal
use Rattle.ctl_waiting.proofs.ranking.needs_of.Goals.{in-Some+in_ok-push, in_default}

pub loop-candidate-preserved : goal.loop-candidate-preserved
loop-candidate-preserved c =
    let before = c.loop-candidate.invariant in
    let count = length c.args.cluster.now.nodes.records in
    let more = filter_map-more (needs_of (state_of c.args.cluster.now) c.args.grounds.now.moment) (λ (one : Candidate). one.job.now)
    c.args.candidates.now c.loop-candidate.candidate-index c.candidate-item.result c.loop-candidate-test.true
    c.candidate-item.is in
    elim c.match-branch-3.branch [
      | in-Some+in_ok-push w ↦ record {
        ranked = rw (
          w.ranked-is,
          w.in_ok-push.ensures.items,
          more,
          ← c.in_ok-need.ensures.need,
          w.in-Some.is,
          before.ranked,
        ) refl;
        nodes = rw (w.ranked-is, w.in_ok-push.ensures.items)
            (All-push (λ (job : PlanJob). All (λ node. node < count) job.nodes) c.loop-candidate.ranked.items
            w.in-Some.need before.nodes (rw w.in-Some.is at c.in_ok-need.ensures.nodes));
        tasks = rw (w.ranked-is, w.in_ok-push.ensures.items)
            (All-push (λ (job : PlanJob). 1 ≤ job.need.tasks) c.loop-candidate.ranked.items w.in-Some.need before.tasks
            (rw w.in-Some.is at c.in_ok-need.ensures.tasks));
      }
      | in_default w ↦ record {
        ranked = rw (w.ranked-is, more, ← c.in_ok-need.ensures.need, w.in_default.is, append-nil, before.ranked) refl;
        nodes = rw w.ranked-is before.nodes;
        tasks = rw w.ranked-is before.tasks;
      }
    ]
