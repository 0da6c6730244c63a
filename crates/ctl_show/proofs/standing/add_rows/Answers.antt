use Rattle.std.proofs.Common.{◌≡◌, ◌∙◌, Some, None, sym, arith, append-nil}
use Rattle.reply_data.specs.declared.view.NodeGroup.{NodeGroup}
use Rattle.ctl_state.specs.State.{state_of}
use Rattle.ctl_show.specs.Standing.{groups, row_by, names_standing, rows_of_partition}
use Rattle.ctl_show.proofs.standing.add_rows.Goals as goal
use Rattle.ctl_show.proofs.standing.add_rows.Goals.{in-Some+in_ok-push, in_default}
use Rattle.list_lemmas.proofs.Maps.{filter_map-more}

pub loop-group-preserved : goal.loop-group-preserved
loop-group-preserved c =
    let partition = c.args.partition.now in
    let row = λ (group : NodeGroup). row_by partition group
    (names_standing (state_of c.args.cluster.now) group partition.nodes) in
    elim c.match-branch-2.branch [
      | in-Some+in_ok-push w ↦ rw (w.rows-is, w.in_ok-push.ensures.items, c.loop-group.invariant)
          (filter_map-more row groups c.loop-group.group-index _ c.args.rows.now.items (Some w.in-Some.row)
          c.loop-group-test.true (sym w.in-Some.is ∙ c.in_ok-row.ensures))
      | in_default w ↦ rw (w.rows-is, c.loop-group.invariant)
          (sym (append-nil _) ∙ filter_map-more row groups c.loop-group.group-index _ c.args.rows.now.items None
          c.loop-group-test.true (sym w.in_default.is ∙ c.in_ok-row.ensures))
    ]

pub returns : goal.returns
unfolding rows_of_partition
returns c =
    let all : c.loop-group.group-index ≡ 6 =
    omega (arith, c.loop-group.auto.group-index-end, c.loop-group-test.false) in
    rw all at c.loop-group.invariant
