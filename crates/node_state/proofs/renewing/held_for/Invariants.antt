use Rattle.std.proofs.Common.{◌≡◌, map, take}
use Rattle.plain_data.specs.declared.conf.NodeConf.{NodeConf}
use Rattle.node_state.specs.Renewing.{held_by_name}
use Rattle.node_state.proofs.renewing.held_for.Given as goal

abbrev pub invariant-loop-conf : goal.invariant-loop-conf
invariant-loop-conf l =
    l.held.items ≡ map (λ (conf : NodeConf). held_by_name l.nodes conf.name) (take l.conf-index l.confs)
