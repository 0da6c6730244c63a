use Rattle.std.proofs.lemmas.List.{take_all}
use Rattle.std.proofs.lemmas.List.Elements.{All-more}
use Rattle.ctl_reconfigure.specs.Files.{IsNodeConf}
use Rattle.ctl_core.proofs.ranges.confs_in_range.Goals as goal

pub loop-node-preserved : goal.loop-node-preserved
loop-node-preserved c =
    All-more IsNodeConf c.args.nodes.now c.loop-node.node-index c.node-item.result
    c.loop-node-test.true c.loop-node.invariant
    (rw (← c.node-item.is) c.is_node_conf.ensures)

pub returns : goal.returns
returns c =
    rw (take_all c.loop-node.node-index c.args.nodes.now c.loop-node-test.false)
    at c.loop-node.invariant
