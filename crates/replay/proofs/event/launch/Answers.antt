use Rattle.ctl_desk.specs.Desk.{state_of}
use Rattle.replay.proofs.Events.{launched_is}
use Rattle.replay.proofs.Reported.{reported_behind, reported_called, room_called}
use Rattle.replay.proofs.event.launch.Goals as goal

pub turn_all-requires-clause-room : goal.turn_all-requires-clause-room
turn_all-requires-clause-room c = room_called 2 _ c.args.now _ c.args.played.now _ c.in_ok-call.ensures.played c.requires

pub returns-clause-launched : goal.returns-clause-launched
returns-clause-launched c =
    launched_is c.args.pace c.args.now _ (state_of c.args.desk.now) _ _ _ c.args.played.now _ _ c.args.course.now c.make_pass.new.course
    c.note_round.new.course (c.in_ok-round.ensures.pass c.args.played.now) c.in_ok-round.ensures.round
    c.in_ok-call.ensures.state c.in_ok-call.ensures.played
    c.in_ok-turn_all.ensures.state c.in_ok-turn_all.ensures.played (c.note_round.ensures _ _)

pub returns-clause-reported : goal.returns-clause-reported
returns-clause-reported c = λ n all.
    reported_behind n _ c.args.now _ _ _ _ c.in_ok-round.ensures.few c.in_ok-turn_all.ensures.played
    (reported_called n _ c.args.now _ c.args.played.now _ c.in_ok-call.ensures.played all)
