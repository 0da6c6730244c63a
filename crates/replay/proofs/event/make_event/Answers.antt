use Rattle.std.proofs.Common.{◌≡◌, ℕ, ◌+◌, subst, arith}
use Rattle.ctl_desk.specs.Desk.{state_of}
use Rattle.replay.specs.Replay.{HaveReported}
use Rattle.replay.proofs.Events.{event_is}
use Rattle.replay.proofs.event.make_event.Goals as goal

pub returns-clause-event : goal.returns-clause-event
returns-clause-event c =
    event_is c.args.pace c.next_moment-now.result _ c.args.submissions.now c.waiting-left.result.now
    (state_of c.args.desk.now) _ _ _ c.args.played.now _ _ c.args.course.now c.note_round.new.course c.hand_in.new.course
    c.launch.new.course (c.next_moment-now.ensures (state_of c.args.desk.now)) c.waiting-left.ensures
    (c.due_round-round.ensures.is (state_of c.args.desk.now) c.args.played.now)
    c.in_ok-clear.ensures.cleared (c.note_round.ensures _ _) (c.in_ok-hand_in.ensures _) c.in_ok-launch.ensures.launched

pub returns-clause-reported : goal.returns-clause-reported
returns-clause-reported c = λ n all.
    let eight : n + 6 + 2 ≡ n + 8 = omega arith in
    subst (λ (k : ℕ). HaveReported k c.launch.new.played) eight
    (c.in_ok-launch.ensures.reported (n + 6) (c.in_ok-clear.ensures.reported n all))
