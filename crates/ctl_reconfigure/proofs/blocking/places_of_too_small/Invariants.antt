use Rattle.std.proofs.Common.{◌≡◌, ℕ, ◌&&◌, take}
use Rattle.std.specs.List.{list_any}
use Rattle.plain_data.specs.Rows.{has_id}
use Rattle.plain_data.specs.declared.conf.NodeConf.{NodeConf}
use Rattle.ctl_state.specs.Holding.{parts_of}
use Rattle.ctl_state.specs.Planning.{is_at}
use Rattle.ctl_reconfigure.specs.Blocking.{is_of, is_too_small}
use Rattle.ctl_reconfigure.proofs.blocking.places_of_too_small.Given as goal

abbrev pub invariant-loop-conf : goal.invariant-loop-conf
invariant-loop-conf l = (place : ℕ)
    → has_id l.places place
    ≡ is_at (λ node. list_any (λ (conf : NodeConf). is_of node conf
    && is_too_small (parts_of l.cluster.jobs.records) place conf) (take l.conf-index l.confs))
    l.cluster.nodes.records place
