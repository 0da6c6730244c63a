use Rattle.replay.proofs.Turning.{may_turns, all_turned}
use Rattle.replay.proofs.turns.turn_all.Goals as goal

pub turns-requires : goal.turns-requires
turns-requires c = may_turns c.args.round c.args.now c.args.ended.now _ _ c.args.played.now c.loop-one.played
    c.loop-one.one-index _ _ c.loop-one-test.true c.loop-one.auto.played c.requires.room c.requires.few
    c.turns_of-count.ensures c.loop-one.invariant

pub returns-clause-state : goal.returns-clause-state
returns-clause-state c = (all_turned _ _ _ _ _ c.args.played.now c.loop-one.played c.loop-one.one-index
    c.loop-one-test.false c.loop-one.auto.played c.loop-one.invariant).0
