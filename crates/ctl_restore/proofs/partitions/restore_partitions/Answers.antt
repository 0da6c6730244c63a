use Rattle.std.proofs.Common.{◌≡◌, ◌≤◌, ◌∙◌, length, ap, arith}
use Rattle.std.proofs.lemmas.List.{drop_all}
use Rattle.std.proofs.lemmas.List.Elements.{All-nil}
use Rattle.node_state.specs.declared.partition_record.PartRecord.{PartRecord}
use Rattle.job_table.specs.Walks.{map_at}
use Rattle.ctl_restore.specs.Restored.{restored_partition}
use Rattle.ctl_nodes.proofs.Walked.{length_map_at}
use Rattle.ctl_restore.proofs.partitions.restore_partitions.Goals as goal

pub restore_at-requires : goal.restore_at-requires
restore_at-requires c = omega (arith, c.loop-place.invariant.long)

pub loop-place-preserved : goal.loop-place-preserved
loop-place-preserved c =
    let held = c.loop-place.invariant in
    let place = c.loop-place.place in
    let change = restored_partition c.args.lines.now in
    record {
      walk = c.restore_at.ensures ∙ ap (map_at place change) held.walk
          ∙ c.a_walk_changes_all.ensures.goes_on change place c.args.partitions.now (omega arith);
      long = ap length c.restore_at.ensures ∙ length_map_at change place c.loop-place.partitions ∙ held.long;
      end = held.end;
    }

pub returns : goal.returns
returns c =
    let held = c.loop-place.invariant in
    let partitions = c.args.partitions.now in
    let change : PartRecord → PartRecord = restored_partition c.args.lines.now in
    let past : length partitions ≤ c.loop-place.place = omega (arith, held.end) in
    held.walk
    ∙ c.a_walk_changes_all.ensures.ends change c.loop-place.place partitions
    (rw (drop_all c.loop-place.place partitions past) (All-nil (λ partition. change partition ≡ partition)))
