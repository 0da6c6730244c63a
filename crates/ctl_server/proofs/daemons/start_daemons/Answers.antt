use Rattle.std.proofs.Common.{◌++◌, ◌∙◌, [], ap}
use Rattle.std.specs.Option.{option_to_list}
use Rattle.list_lemmas.proofs.Maps.{filter_map-more}
use Rattle.ctl_server.specs.Daemons.{daemon_of}
use Rattle.ctl_server.proofs.daemons.start_daemons.Goals as goal

pub loop-node-preserved : goal.loop-node-preserved
loop-node-preserved c =
    c.in_ok-push_found.ensures ∙ ap (λ before. before ++ option_to_list c.in_ok-daemon_of.field-0) c.loop-node.invariant
    ∙ filter_map-more daemon_of c.args.nodes.now c.loop-node.node-index c.node-item.result [] _ c.loop-node-test.true
    (c.in_ok-daemon_of.ensures ∙ ap daemon_of c.node-item.is)
