use Rattle.std.proofs.Common.{◌&&◌, refl, arith}
use Rattle.std.proofs.lemmas.Option.{IfSome_then}
use Rattle.plain_data.specs.declared.conf.NodeConf.{NodeConf}
use Rattle.node_state.specs.declared.record.NodeRecord.{NodeRecord}
use Rattle.ctl_state.specs.Holding.{parts_of}
use Rattle.ctl_reconfigure.specs.Blocking.{is_of, is_too_small}
use Rattle.ctl_reconfigure.proofs.Lines.{line-more}
use Rattle.ctl_reconfigure.proofs.blocking.places_of_too_small.Goals as goal

pub insert_found-requires : goal.insert_found-requires
insert_found-requires c =
    IfSome_then c.found_too_small.result c.found_too_small.ensures.there
    (λ place inside. omega (arith, inside, c.records-records.ensures.named.few))

pub loop-conf-preserved : goal.loop-conf-preserved
loop-conf-preserved c = λ place.
    let parts = parts_of c.args.cluster.now.jobs.records in
    line-more c.names_lead_to_places.ensures.there c.names_lead_to_places.ensures.named
    (λ (node : NodeRecord) (conf : NodeConf). is_of node conf && is_too_small parts place conf)
    (is_too_small parts place c.conf-item.result) c.args.confs.now c.loop-conf.conf-index c.conf-item.result
    c.args.cluster.now.nodes.records place _ _ _ (λ node. refl) c.records-records.ensures.named c.loop-conf-test.true
    c.conf-item.is (c.found_too_small.ensures.small place) (c.loop-conf.invariant place) (c.insert_found.ensures place)
