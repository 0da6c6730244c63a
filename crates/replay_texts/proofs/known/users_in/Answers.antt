use Rattle.replay_texts.specs.Known.{user_in}
use Rattle.replay_texts.proofs.Found.{one_more}
use Rattle.replay_texts.proofs.known.users_in.Goals as goal

pub loop-assoc-preserved : goal.loop-assoc-preserved
loop-assoc-preserved c =
    one_more (user_in c.args.assocs.now) c.args.assocs.now c.loop-assoc.assoc-index c.assoc-item.result _ _ _
    c.loop-assoc-test.true c.assoc-item.is c.in_ok-user.ensures c.in_ok-push_user.ensures c.loop-assoc.invariant
