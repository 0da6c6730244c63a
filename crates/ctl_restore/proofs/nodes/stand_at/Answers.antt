use Rattle.std.proofs.Common.{◌≡◌, ◌∙◌, get_or, bytes_eq, Some, sym}
use Rattle.std.proofs.lemmas.List.{get_or_default}
use Rattle.node_state.specs.declared.record.NodeRecord.{NodeRecord}
use Rattle.saved_data.specs.declared.parts.SavedNode.{SavedNode}
use Rattle.ctl_restore.specs.Fits.{IsEmptyOnce}
use Rattle.ctl_restore.specs.Restored.{restored_node, standing_as}
use Rattle.ctl_restore.proofs.Assembly.{found-all, line-there}
use Rattle.ctl_restore.proofs.nodes.stand_at.Goals as goal

pub stand-requires-clause-empty : goal.stand-requires-clause-empty
stand-requires-clause-empty c =
    found-all IsEmptyOnce (λ (line : SavedNode). bytes_eq line.name c.index-records-place.result.conf.name)
    c.args.lines.now c.in-Some.line.now (sym c.in-Some.ensures) c.requires.empty

pub returns-in-Some-clause-records : goal.returns-in-Some-clause-records
returns-in-Some-clause-records c =
    let nodes = c.args.nodes.now.records in
    let lines = c.args.lines.now in
    let place = c.args.place in
    let line = c.in-Some.line.now in
    let one = c.index-records-place.result in
    let is : one ≡ get_or nodes place one = rw c.records.ensures.value at c.index-records-place.is in
    let here : (d : NodeRecord) → get_or nodes place d ≡ one =
    λ d. get_or_default nodes place d one c.requires.there ∙ sym is in
    c.stand.ensures.records
    ∙ c.a_change_is_of_its_place.ensures.same (λ (node : NodeRecord). standing_as node (Some line)) (restored_node lines)
    place nodes (λ d. rw (here d) (line-there lines one line c.in-Some.ensures))
