use Rattle.std.proofs.Common.{arith, ◌∙◌}
use Rattle.ctl_state.specs.State.{state_of}
use Rattle.ctl_waiting.proofs.RankOrder.{rank-measured, rank_at-low}
use Rattle.ctl_waiting.proofs.priority.rank_of.Goals as goal

pub returns-clause-value : goal.returns-clause-value
returns-clause-value c =
    rw c.as_slice.ensures.value at c.rank_at_place.ensures
    ∙ rank-measured (state_of c.args.cluster.now) c.args.factors.now c.args.place c.requires.measured

pub returns-clause-low : goal.returns-clause-low
returns-clause-low c =
    let found = rw c.as_slice.ensures.value at c.rank_at_place.ensures in
    omega (
      arith,
      found,
      rank-measured (state_of c.args.cluster.now) c.args.factors.now c.args.place c.requires.measured,
      rank_at-low (state_of c.args.cluster.now) c.args.factors.now.moment c.args.place,
      c.requires.measured.users,
    )
