use Rattle.std.proofs.Common.{length, get_or, ap, ◌∙◌, Some, false, arith}
use Rattle.node_state.specs.declared.record.NodeChange.TheVariants as change
use Rattle.node_state.specs.declared.record.NodeRecord.{NodeRecord}
use Rattle.node_state.specs.Nodes.{changed}
use Rattle.job_table.specs.Walks.{map_at}
use Rattle.ctl_restore.specs.Restored.{standing_as}
use Rattle.ctl_restore.specs.Steps.{down_as, drained_as, heard_as}
use Rattle.ctl_restore.proofs.Standing.{stands}
use Rattle.ctl_restore.proofs.Walking.{four-changes}
use Rattle.ctl_nodes.proofs.Walked.{length_map_at}
use Rattle.ctl_restore.proofs.nodes.stand.Goals as goal

pub hear-requires : goal.hear-requires
hear-requires c =
    omega (
      arith,
      c.requires.there,
      ap length c.change.ensures.records,
      length_map_at (changed change.Resume) c.args.place c.args.nodes.now.records,
    )

pub set_down-requires : goal.set_down-requires
set_down-requires c =
    omega (
      arith,
      c.requires.there,
      ap length c.change.ensures.records,
      length_map_at (changed change.Resume) c.args.place c.args.nodes.now.records,
      ap length c.hear.ensures.records,
      length_map_at (heard_as c.args.line.now.heard false) c.args.place c.change.new.nodes.records,
    )

pub drain-requires : goal.drain-requires
drain-requires c =
    omega (
      arith,
      c.requires.there,
      ap length c.change.ensures.records,
      length_map_at (changed change.Resume) c.args.place c.args.nodes.now.records,
      ap length c.hear.ensures.records,
      length_map_at (heard_as c.args.line.now.heard false) c.args.place c.change.new.nodes.records,
      ap length c.set_down.ensures.records,
      length_map_at (down_as c.args.line.now c.args.line.now.down) c.args.place c.hear.new.nodes.records,
    )

pub returns-clause-records : goal.returns-clause-records
returns-clause-records c =
    let line = c.args.line.now in
    let nodes = c.args.nodes.now.records in
    let place = c.args.place in
    let law = c.a_change_is_of_its_place.ensures in
    let all : NodeRecord → NodeRecord =
    λ node. drained_as line.drain (down_as line line.down (heard_as line.heard false (changed change.Resume node))) in
    c.drain.ensures.records
    ∙ ap (map_at place (drained_as line.drain))
    (c.set_down.ensures.records
    ∙ ap (map_at place (down_as line line.down))
    (c.hear.ensures.records ∙ ap (map_at place (heard_as line.heard false)) c.change.ensures.records))
    ∙ four-changes law.twice (changed change.Resume) (heard_as line.heard false) (down_as line line.down)
    (drained_as line.drain) place nodes
    ∙ law.same all (λ (node : NodeRecord). standing_as node (Some line)) place nodes
    (λ d. stands line (get_or nodes place d) (c.requires.unheard d) c.requires.empty)
