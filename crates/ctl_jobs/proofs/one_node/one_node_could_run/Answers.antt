use Rattle.std.proofs.Common.{◌≡◌, ◌∙◌, true, sym}
use Rattle.std.specs.List.{list_any}
use Rattle.ctl_state.specs.Planning.{is_at}
use Rattle.ctl_jobs.specs.OneNode.{cpus_of_all, has_room, mem_on_one}
use Rattle.ctl_jobs.specs.Submission.{is_placeable}
use Rattle.ctl_jobs.proofs.OneNode.{one-could_run}
use Rattle.ctl_jobs.proofs.one_node.one_node_could_run.Goals as goal

pub returns : goal.returns
unfolding is_placeable
returns c = λ any.
    let nodes = c.args.cluster.now.nodes.records in
    let job = c.args.job.now in
    let terms_are = c.terms-terms.ensures in
    let cpus = cpus_of_all job.terms in
    let found : list_any (is_at (has_room cpus (mem_on_one job.terms.mem cpus) job.terms) nodes) c.args.partition.now.nodes ≡ true =
    rw (c.records.ensures.value, c.mem_on_one-mem.ensures.value, c.cpus_of_all-cpus.ensures.value, terms_are) at (sym c.any_has_room.ensures ∙ any) in
    one-could_run c.one_node_is_enough.ensures c.a_stable_sort_makes_the_order.ensures.moves nodes c.args.cluster.now.reservations c.args.partition.now job
    (rw terms_are at c.mem_on_one-mem.ensures.asks) (rw terms_are at c.cpus_of_all-cpus.ensures.tasks) (rw terms_are at c.cpus_of_all-cpus.ensures.each)
    (rw terms_are at (c.may_be_on_one.ensures c.if-not-may_be_on_one.false)) found
