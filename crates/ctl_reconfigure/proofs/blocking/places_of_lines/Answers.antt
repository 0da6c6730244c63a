use Rattle.std.proofs.Common.{true, arith}
use Rattle.std.proofs.lemmas.Option.{IfSome_then}
use Rattle.ctl_reconfigure.specs.Blocking.{is_of}
use Rattle.ctl_reconfigure.proofs.Lines.{line-more, true_too}
use Rattle.ctl_reconfigure.proofs.blocking.places_of_lines.Goals as goal

pub insert_found-requires : goal.insert_found-requires
insert_found-requires c =
    IfSome_then c.find.result c.find.ensures.there (λ place inside. omega (arith, inside, c.records-records.ensures.named.few))

pub loop-conf-preserved : goal.loop-conf-preserved
loop-conf-preserved c = λ place.
    line-more c.names_lead_to_places.ensures.there c.names_lead_to_places.ensures.named is_of true c.args.confs.now
    c.loop-conf.conf-index c.conf-item.result c.args.nodes.now.records place _ _ _
    (λ node. true_too (is_of node c.conf-item.result)) c.records-records.ensures.named c.loop-conf-test.true c.conf-item.is
    (rw c.find.ensures.value (true_too _)) (c.loop-conf.invariant place) (c.insert_found.ensures place)
