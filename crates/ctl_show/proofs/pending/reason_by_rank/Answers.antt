use Rattle.std.proofs.Common.{◌∙◌, sym, true≢false}
use Rattle.ctl_state.specs.State.{state_of}
use Rattle.ctl_show.specs.Showing.{highest}
use Rattle.ctl_show.proofs.Ranked.{highest-reason, lower-reason}
use Rattle.ctl_show.proofs.pending.reason_by_rank.Goals as goal

pub returns-then-is_first : goal.returns-then-is_first
returns-then-is_first c =
    highest-reason (highest (state_of c.args.cluster.now) c.args.factors.now.moment) c.args.job.now
    (c.is_first.ensures.0 c.if-is_first.true)

pub returns-else-is_first : goal.returns-else-is_first
returns-else-is_first c =
    lower-reason (highest (state_of c.args.cluster.now) c.args.factors.now.moment) c.args.job.now
    (λ is. true≢false (sym (c.is_first.ensures.1 is) ∙ c.if-is_first.false))
