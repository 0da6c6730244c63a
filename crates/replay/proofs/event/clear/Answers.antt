use Rattle.std.proofs.Common.{◌+◌, ◌∙◌, arith}
use Rattle.ctl_desk.specs.Desk.{state_of}
use Rattle.replay.specs.declared.turns.Round.TheVariants.{Ending, Others}
use Rattle.replay.proofs.Events.{cleared_is}
use Rattle.replay.proofs.Reported.{less_room, reported_thrice, room_behind, room_behind_thrice}
use Rattle.replay.proofs.event.clear.Goals as goal

pub turn_all-requires-clause-room : goal.turn_all-requires-clause-room
turn_all-requires-clause-room c = less_room 8 2 c.args.played.now (omega arith) c.requires

pub turn_all-requires-2-clause-room : goal.turn_all-requires-2-clause-room
turn_all-requires-2-clause-room c =
    room_behind 8 2 Ending c.args.now c.as_slice-starts.result.now (state_of c.args.desk.now) c.args.played.now
    c.turn_all.new.played (omega arith) tt c.in_ok-turn_all.ensures.played c.requires

pub turn_all-requires-3-clause-room : goal.turn_all-requires-3-clause-room
turn_all-requires-3-clause-room c =
    room_behind 6 2 Others c.args.now c.as_slice-starts.result.now (state_of c.turn_all.new.desk) c.turn_all.new.played
    c.turn_all-2.new.played (omega arith) tt c.in_ok-turn_all-2.ensures.played
    (room_behind 8 6 Ending c.args.now c.as_slice-starts.result.now (state_of c.args.desk.now) c.args.played.now
    c.turn_all.new.played (omega arith) tt c.in_ok-turn_all.ensures.played c.requires)

pub returns-clause-cleared : goal.returns-clause-cleared
returns-clause-cleared c =
    cleared_is _ c.args.now _ (state_of c.args.desk.now) _ _ _ c.args.played.now _ _ _ c.args.course.now
    (c.as_slice-starts.ensures.value ∙ c.in_ok-ended.ensures)
    (c.due_round-due.ensures.is (state_of c.args.desk.now) c.args.played.now)
    c.in_ok-turn_all.ensures.state c.in_ok-turn_all.ensures.played
    c.in_ok-turn_all-2.ensures.state c.in_ok-turn_all-2.ensures.played
    c.in_ok-turn_all-3.ensures.state c.in_ok-turn_all-3.ensures.played

pub returns-clause-room : goal.returns-clause-room
returns-clause-room c =
    room_behind_thrice _ c.args.now _ _ _ _ c.args.played.now _ _ _ c.due_round-due.ensures.few
    c.in_ok-turn_all.ensures.played c.in_ok-turn_all-2.ensures.played c.in_ok-turn_all-3.ensures.played c.requires

pub returns-clause-reported : goal.returns-clause-reported
returns-clause-reported c = λ n all.
    reported_thrice n _ c.args.now _ _ _ _ c.args.played.now _ _ _ c.due_round-due.ensures.few
    c.in_ok-turn_all.ensures.played c.in_ok-turn_all-2.ensures.played c.in_ok-turn_all-3.ensures.played all
