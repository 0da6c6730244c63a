use Rattle.std.proofs.Common.{◌≡◌, take, sym, refl, append-nil}
use Rattle.std.proofs.lemmas.List.{take_all}
use Rattle.reply_data.specs.declared.view.Row.TheVariants as shown
use Rattle.node_state.specs.declared.partition_record.PartRecord.{PartRecord}
use Rattle.ctl_state.specs.State.{state_of}
use Rattle.ctl_show.specs.Records.{partition_row}
use Rattle.ctl_show.specs.Standing.{is_asked}
use Rattle.ctl_show.proofs.Gathered.{map-filter-more}
use Rattle.ctl_show.proofs.shown_partitions.partition_rows.Goals as goal
use Rattle.ctl_show.proofs.shown_partitions.partition_rows.Goals.{then-is_asked+in_ok-partition_row+in_ok-push, else-is_asked}

pub partition_row-requires-clause-there : goal.partition_row-requires-clause-there
partition_row-requires-clause-there c =
    let same = c.records-partition-items.ensures.value in
    let there = c.requires.partitions c.loop-partition.partition-index c.partition-item.result
    (rw same at c.loop-partition-test.true) in
    let is = rw same at c.partition-item.is in
    rw (← is) at there

pub loop-partition-preserved : goal.loop-partition-preserved
loop-partition-preserved c =
    let row = λ (partition : PartRecord). shown.Partition (partition_row (state_of c.args.cluster.now) partition) in
    let same = c.records-partition-items.ensures.value in
    let more = rw (← c.is_asked.ensures) at
    (map-filter-more row (is_asked c.args.asked.now) c.args.cluster.now.partitions c.loop-partition.partition-index
    c.partition-item.result (rw same at c.loop-partition-test.true) (rw same at c.partition-item.is)) in
    elim c.if-is_asked.branch [
      | then-is_asked+in_ok-partition_row+in_ok-push w ↦
          rw (
            w.rows-is,
            w.in_ok-push.ensures.items,
            c.loop-partition.invariant,
            w.in_ok-partition_row.ensures,
            more,
            w.if-is_asked.true,
          ) refl
      | else-is_asked w ↦ rw (w.rows-is, c.loop-partition.invariant, more, w.if-is_asked.false) (sym (append-nil _))
    ]

pub returns : goal.returns
returns c =
    let partitions = c.args.cluster.now.partitions in
    let whole : take c.loop-partition.partition-index partitions ≡ partitions =
    take_all c.loop-partition.partition-index partitions
    (rw c.records-partition-items.ensures.value at c.loop-partition-test.false) in
    rw whole at c.loop-partition.invariant
