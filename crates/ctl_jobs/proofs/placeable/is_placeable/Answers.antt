use Rattle.std.proofs.Common.{◌≡◌, ◌∙◌, length, ap, arith}
use Rattle.std.proofs.lemmas.List.{length-map}
use Rattle.ctl_state.specs.Planning.{open_room}
use Rattle.ctl_jobs.proofs.placeable.is_placeable.Goals as goal

pub plan_job-requires : goal.plan_job-requires
plan_job-requires c =
    rw (c.records-nodes.ensures.value, c.in_ok-places.ensures)
    (c.jobs_get_nodes_that_are_there.ensures.places c.args.cluster.now.nodes.records c.args.cluster.now.reservations
    c.args.partition.now c.terms.result.now.reservation c.requires.there)

pub fits_empty_nodes-requires : goal.fits_empty_nodes-requires
fits_empty_nodes-requires c =
    let rooms : length c.deref.result.now ≡ length c.records-nodes.result.now =
    ap length (c.deref.ensures.value ∙ c.in_ok-rooms.ensures)
    ∙ length-map c.records-nodes.result.now open_room in
    λ k d below. omega (arith, c.in_ok-job.ensures.nodes k d below, rooms)
