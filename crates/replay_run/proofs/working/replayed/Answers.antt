use Rattle.std.proofs.Common.{◌≡◌, List, subst}
use Rattle.ctl_desk.specs.Desk.{state_of}
use Rattle.trace_text.specs.declared.submission.Submission.{Submission}
use Rattle.replay_run.specs.Replays.{MayStand}
use Rattle.replay_run.proofs.Standing.{set_so}
use Rattle.replay_run.proofs.working.replayed.Goals as goal

pub work_begun-requires : goal.work_begun-requires
work_begun-requires g c =
    let site = c.args.site.now in
    let opens = c.requires in
    let all : c.as_slice.result.now ≡ c.args.trace.plan.now.submissions.items = cc c.as_slice.ensures.value in
    subst (λ (submissions : List Submission). MayStand site.conf.now site.assocs.now site.pace submissions
    (state_of c.begin.new.desk) c.in-Ok.replaying) all
    (set_so _ _ site.pace _ opens.0 _ c.args.desk _ opens.1 opens.2 (c.in-Ok.ensures site.pace))
