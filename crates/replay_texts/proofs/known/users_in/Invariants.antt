use Rattle.std.proofs.Common.{◌≡◌, filter_map, take}
use Rattle.replay_texts.specs.Known.{user_in}
use Rattle.replay_texts.proofs.known.users_in.Given as goal

abbrev pub invariant-loop-assoc : goal.invariant-loop-assoc
invariant-loop-assoc l = l.users.items ≡ filter_map (user_in l.assocs) (take l.assoc-index l.assocs)
