use Rattle.std.proofs.Common.{◌≡◌, ◌∙◌, get_or, sym}
use Rattle.std.proofs.lemmas.List.{get_or_default}
use Rattle.node_state.specs.declared.partition_record.PartRecord.{PartRecord}
use Rattle.node_state.specs.Partitions.{in_state}
use Rattle.ctl_restore.specs.Restored.{restored_partition}
use Rattle.ctl_restore.proofs.Assembly.{state-there}
use Rattle.ctl_restore.proofs.Walking.{partition-at}
use Rattle.ctl_restore.proofs.partitions.restore_at.Goals as goal

pub returns-in-Some : goal.returns-in-Some
returns-in-Some c =
    let partitions = c.args.partitions.now in
    let lines = c.args.lines.now in
    let place = c.args.place in
    let state = c.in-Some.state in
    let one = c.index-records-place.result in
    let is : one ≡ get_or partitions place one = rw c.records.ensures.value at c.index-records-place.is in
    let here : (d : PartRecord) → get_or partitions place d ≡ one =
    λ d. get_or_default partitions place d one c.requires ∙ sym is in
    c.set_state.ensures.changed ∙ partition-at place state partitions
    ∙ c.a_change_is_of_its_place.ensures.same (in_state state) (restored_partition lines) place partitions
    (λ d. rw (here d) (state-there lines one state c.in-Some.ensures))
