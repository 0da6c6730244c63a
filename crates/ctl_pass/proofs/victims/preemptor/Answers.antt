use Rattle.std.proofs.Common.{◌≡◌, Bool, true, false, Some, not, map, subst, ap, sym, ◌∙◌}
use Rattle.std.specs.Prelude.{List, find}
use Rattle.resource_profile.specs.declared.NodeRoom.{NodeRoom}
use Rattle.backfill_planner.specs.declared.job.PlanJob.{PlanJob}
use Rattle.backfill_planner.specs.Placements.{IsOnRooms}
use Rattle.backfill_planner.specs.Plans.{PlannedView}
use Rattle.ctl_state.specs.Planning.{room_of}
use Rattle.ctl_state.specs.State.{state_of}
use Rattle.ctl_pass.specs.Awaiting.{placements_of}
use Rattle.ctl_pass.specs.Outcome.{outcome}
use Rattle.ctl_pass.specs.Preempting.{first_waiting, is_among}
use Rattle.ctl_pass.specs.Readiness.{ready}
use Rattle.ctl_pass.proofs.Planned.{base-rooms}
use Rattle.ctl_pass.proofs.Serving.{first-is, found-has, preemptor-is, served-stays}
use Rattle.ctl_pass.proofs.victims.preemptor.Goals as goal

pub returns-then-may_start-clause-need : goal.returns-then-may_start-clause-need
returns-then-may_start-clause-need c =
    let s = state_of c.args.cluster.now in
    let now = c.args.now in
    let need = c.in-Some.need.now in
    let first = first-is s now c.args.planned.now c.ranked.result.now (placements_of c.args.starts.now) (Some need)
    c.ranked.ensures.value c.requires.planned c.requires.starts (rw c.in-Some.is at c.in_ok-need.ensures) in
    let stays = served-stays c.who_is_awaited_stays.ensures.changes c.a_stable_sort_makes_the_order.ensures.moves s now need
    c.requires.sound first in
    sym (preemptor-is s now need true (sym c.preempts_at_all.ensures ∙ c.if-not-preempts_at_all.false) first
    (sym (c.may_start.ensures (outcome s now).jobs c.requires.counted stays) ∙ c.if-may_start.true))

pub returns-then-may_start-clause-nodes : goal.returns-then-may_start-clause-nodes
returns-then-may_start-clause-nodes c =
    let s = state_of c.args.cluster.now in
    let now = c.args.now in
    let need = c.in-Some.need.now in
    let starts = placements_of c.args.starts.now in
    let base = c.args.planned.now.base in
    let test : PlanJob → Bool = λ job. not (is_among starts job) in
    let found = found-has (IsOnRooms base.rooms) test c.ranked.result.now need c.ranked.ensures.nodes
    (sym (rw c.in-Some.is at c.in_ok-need.ensures)) in
    let rooms = base-rooms (ready s now) now base (ap (λ (made : PlannedView). made.base) c.requires.planned) in
    subst (λ (some : List NodeRoom). IsOnRooms some need) rooms found.0

pub returns-else-may_start-clause-need : goal.returns-else-may_start-clause-need
returns-else-may_start-clause-need c =
    let s = state_of c.args.cluster.now in
    let now = c.args.now in
    let need = c.in-Some.need.now in
    let first = first-is s now c.args.planned.now c.ranked.result.now (placements_of c.args.starts.now) (Some need)
    c.ranked.ensures.value c.requires.planned c.requires.starts (rw c.in-Some.is at c.in_ok-need.ensures) in
    let stays = served-stays c.who_is_awaited_stays.ensures.changes c.a_stable_sort_makes_the_order.ensures.moves s now need
    c.requires.sound first in
    sym (preemptor-is s now need false (sym c.preempts_at_all.ensures ∙ c.if-not-preempts_at_all.false) first
    (sym (c.may_start.ensures (outcome s now).jobs c.requires.counted stays) ∙ c.if-may_start.false))
