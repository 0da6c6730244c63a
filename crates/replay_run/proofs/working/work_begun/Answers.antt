use Rattle.std.proofs.Common.{◌≡◌, List, subst}
use Rattle.ctl_desk.specs.Desk.{state_of}
use Rattle.trace_text.specs.declared.submission.Submission.{Submission}
use Rattle.replay_run.specs.Replays.{MayStand}
use Rattle.replay_run.proofs.Standing.{came_so}
use Rattle.replay_run.proofs.working.work_begun.Goals as goal

pub returns-clause-outcomes : goal.returns-clause-outcomes
returns-clause-outcomes g c =
    let site = c.args.site.now in
    let plan = c.args.trace.plan.now in
    let all : c.as_slice-submissions.result.now ≡ plan.submissions.items = cc c.as_slice-submissions.ensures.value in
    let stands : MayStand site.conf.now site.assocs.now site.pace plan.submissions.items (state_of c.in_ok-desk.desk)
    c.in_ok-desk.replaying =
    subst (λ (submissions : List Submission). MayStand site.conf.now site.assocs.now site.pace submissions
    (state_of c.in_ok-desk.desk) c.in_ok-desk.replaying) all c.in_ok-desk.ensures.stands in
    came_so _ _ _ _ plan _ _ c.ended_at.result stands c.in_ok-desk.ensures.over c.ended_at.ensures.outcomes
