use Rattle.std.proofs.Common.{ap}
use Rattle.ctl_state.specs.State.{State}
use Rattle.ctl_reconfigure.proofs.reconfiguring.reconfigure.Goals as goal

pub returns-clause-ok : goal.returns-clause-ok
returns-clause-ok c = c.put.ensures.state c.args.moment c.args.conf.now c.in_ok-made.ensures.made

pub returns-clause-indexed : goal.returns-clause-indexed
returns-clause-indexed c =
    rw (
      c.put.ensures.nodes,
      ap (λ (s : State). s.jobs) (c.put.ensures.state c.args.moment c.args.conf.now c.in_ok-made.ensures.made),
    )
    c.in_ok-made.ensures.shown
