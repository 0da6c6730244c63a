use Rattle.std.proofs.Common.{◌≡◌, take}
use Rattle.replay_texts.specs.Known.{accounts_in}
use Rattle.replay_texts.proofs.known.accounts_in.Given as goal

abbrev pub invariant-loop-assoc : goal.invariant-loop-assoc
invariant-loop-assoc l = l.accounts.items ≡ accounts_in (take l.assoc-index l.assocs)
