use Rattle.std.proofs.Common.{length, arith, ap}
use Rattle.ctl_state.specs.State.{state_of}
use Rattle.ctl_node_side.proofs.passing.finish.Goals as goal

pub overflow_cast-started : goal.overflow_cast-started
overflow_cast-started c =
    omega (
      arith,
      c.len-started.ensures,
      c.requires.decided.count,
      c.few_start_or_stay.ensures (state_of c.args.cluster.now) c.args.moment c.requires.sound,
    )

pub overflow_cast-planned : goal.overflow_cast-planned
overflow_cast-planned c =
    omega (
      arith,
      c.len-planned.ensures,
      ap length c.requires.decided.stays,
      c.few_start_or_stay.ensures (state_of c.args.cluster.now) c.args.moment c.requires.sound,
    )
