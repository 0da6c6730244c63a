use Rattle.std.proofs.Common.{◌≡◌, ◌≤◌, ◌∙◌, length, ap, arith}
use Rattle.std.proofs.lemmas.List.{drop_all}
use Rattle.std.proofs.lemmas.List.Elements.{All-nil}
use Rattle.node_state.specs.declared.record.NodeRecord.{NodeRecord}
use Rattle.job_table.specs.Walks.{map_at}
use Rattle.ctl_restore.specs.Restored.{restored_node}
use Rattle.ctl_restore.specs.Steps.{IsUnheard}
use Rattle.ctl_nodes.proofs.Walked.{length_map_at, unwalked_at}
use Rattle.ctl_restore.proofs.nodes.restore_nodes.Goals as goal

pub stand_at-requires-clause-there : goal.stand_at-requires-clause-there
stand_at-requires-clause-there c = omega (arith, c.loop-place.invariant.long)

pub stand_at-requires-clause-unheard : goal.stand_at-requires-clause-unheard
stand_at-requires-clause-unheard c =
    rw c.loop-place.invariant.walk
    (unwalked_at c.a_walk_changes_all.ensures.rest IsUnheard (restored_node c.args.lines.now) c.loop-place.place
    c.args.nodes.now.records (omega arith) (λ d. c.requires.unheard c.loop-place.place d (omega arith)))

pub loop-place-preserved : goal.loop-place-preserved
loop-place-preserved c =
    let held = c.loop-place.invariant in
    let place = c.loop-place.place in
    let change = restored_node c.args.lines.now in
    record {
      walk = c.stand_at.ensures.records ∙ ap (map_at place change) held.walk
          ∙ c.a_walk_changes_all.ensures.goes_on change place c.args.nodes.now.records (omega arith);
      held = c.stand_at.ensures.held ∙ held.held;
      long = ap length c.stand_at.ensures.records ∙ length_map_at change place c.loop-place.nodes.records ∙ held.long;
      end = held.end;
    }

pub returns-clause-records : goal.returns-clause-records
returns-clause-records c =
    let held = c.loop-place.invariant in
    let nodes = c.args.nodes.now.records in
    let change : NodeRecord → NodeRecord = restored_node c.args.lines.now in
    let past : length nodes ≤ c.loop-place.place = omega (arith, held.end) in
    held.walk
    ∙ c.a_walk_changes_all.ensures.ends change c.loop-place.place nodes
    (rw (drop_all c.loop-place.place nodes past) (All-nil (λ node. change node ≡ node)))
