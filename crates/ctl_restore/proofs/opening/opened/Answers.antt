use Rattle.std.proofs.Common.{length, refl, ap, ◌∙◌}
use Rattle.std.proofs.lemmas.List.{length-replicate}
use Rattle.ctl_core.proofs.Openings.{names-opened, sound-opening}
use Rattle.ctl_restore.proofs.opening.opened.Goals as goal

pub build-requires-2-clause-of_nodes : goal.build-requires-2-clause-of_nodes
build-requires-2-clause-of_nodes c =
    rw (c.into_vec-2.ensures, c.in_ok-nodes.ensures.records, c.into_vec.ensures, names-opened) c.conf.invariant.of_nodes

pub returns-clause-sound : goal.returns-clause-sound
returns-clause-sound c =
    sound-opening _ c.settings_in_range.ensures
    (record {
      named = c.records.ensures.named;
      each = rw c.records.ensures.value at c.nodes_in_range.ensures;
    })
    c.in_ok-partitions.ensures.on_nodes
    (rw c.records-2.ensures.value at c.partitions_in_range.ensures)
    c.in_ok-jobs.ensures.records c.new-5.ensures.items c.new-3.ensures
    (ap length c.in_ok-jobs.ensures.usage
    ∙ length-replicate (length c.records-3.result.now) 0
    ∙ ap length c.records-3.ensures.value) c.get.ensures.range refl refl
