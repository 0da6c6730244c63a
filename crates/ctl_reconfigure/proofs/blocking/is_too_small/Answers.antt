use Rattle.std.proofs.Common.{arith}
use Rattle.std.proofs.lemmas.Bool.Decides.{nat_tests}
use Rattle.ctl_state.specs.Holding.{parts_of}
use Rattle.ctl_reconfigure.proofs.Needed.{too_small-shown}
use Rattle.ctl_reconfigure.proofs.blocking.is_too_small.Goals as goal

pub returns-then-reaches : goal.returns-then-reaches
returns-then-reaches c =
    let shown = too_small-shown c.args.cluster.now.nodes.held (parts_of c.args.cluster.now.jobs.records) c.args.place
    c.args.conf.now c.requires.indexed in
    grind (arith, nat_tests, shown)

pub returns-else-reaches : goal.returns-else-reaches
returns-else-reaches c =
    let shown = too_small-shown c.args.cluster.now.nodes.held (parts_of c.args.cluster.now.jobs.records) c.args.place
    c.args.conf.now c.requires.indexed in
    grind (arith, nat_tests, shown)
