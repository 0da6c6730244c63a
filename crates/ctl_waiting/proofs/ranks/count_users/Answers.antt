use Rattle.std.proofs.Common.{sym, ◌∙◌}
use Rattle.ctl_waiting.specs.FairShare.{user_count}
use Rattle.ctl_waiting.proofs.Users.{length-users}
use Rattle.ctl_waiting.proofs.ranks.count_users.Goals as goal

pub returns : goal.returns
unfolding user_count
returns c =
    rw c.records.ensures.value at c.users_among.ensures ∙ sym (length-users c.args.cluster.now.assocs.records)
