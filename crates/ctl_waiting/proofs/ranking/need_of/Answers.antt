use Rattle.std.proofs.Common.{length, sym}
use Rattle.std.proofs.lemmas.Option.{get_or_from_slice_get, slice_get_within}
use Rattle.node_state.specs.Partitions.{IsOnNodes}
use Rattle.node_state.specs.Reservations.{lasting}
use Rattle.ctl_waiting.proofs.ranking.need_of.Goals as goal

pub plan_job-requires : goal.plan_job-requires
plan_job-requires c =
    let partitions = c.args.cluster.now.partitions in
    let place = c.args.job.now.partition in
    let partition = c.in-Some.partition.now in
    let is = sym c.in-Some.ensures in
    let on : IsOnNodes (length c.args.cluster.now.nodes.records) partition =
    rw (get_or_from_slice_get partitions place partition partition is) at
    (c.requires.partitions place partition (slice_get_within partitions place partition is)) in
    rw (c.records-nodes.ensures.value, c.in_ok-places.ensures)
    (c.jobs_get_nodes_that_are_there.ensures.places c.args.cluster.now.nodes.records
    (lasting c.args.grounds.now.moment c.args.cluster.now.reservations) partition c.terms-2.result.now.reservation on)
