use Rattle.replay.proofs.Several.{others_turns}
use Rattle.replay.proofs.turns.turns_of.Goals as goal

pub returns-in-Others : goal.returns-in-Others
returns-in-Others c =
    others_turns c.args.round c.args.now c.args.ended.now c.args.one.now _ _ c.turns_where_left.ensures
    c.as_slice-in-Others.ensures c.in-Others.is
