use Rattle.std.proofs.Common.{length, subst, sym}
use Rattle.std.specs.Option.{option_to_list}
use Rattle.job_table.specs.declared.record.JobRecord.{JobRecord}
use Rattle.ctl_state.specs.Index.{GivesParts}
use Rattle.ctl_node_side.specs.Leaving.{AreOnNodes, part_dropped}
use Rattle.ctl_node_side.proofs.Dropped.{left_shown, parts_held}
use Rattle.ctl_node_side.proofs.leaving.leave_node.Goals as goal

pub give_back-requires-clause-on : goal.give_back-requires-clause-on
give_back-requires-clause-on c =
    let job = c.index-records-place.result in
    subst (λ (one : JobRecord). AreOnNodes (length c.args.nodes.now.records) one.parts)
    (sym (rw c.records.ensures.value at c.index-records-place.is)) (c.requires.on job)

pub give_back-requires-clause-held : goal.give_back-requires-clause-held
give_back-requires-clause-held c =
    parts_held c.the_index_shows_what_is_held.ensures.parts c.args.nodes.now.held c.args.jobs.now.records c.args.place
    c.index-records-place.result c.requires.there (rw c.records.ensures.value at c.index-records-place.is)
    c.requires.shown

pub returns-clause-shown : goal.returns-clause-shown
returns-clause-shown c =
    let jobs = c.args.jobs.now.records in
    let job = c.index-records-place.result in
    let held = c.args.nodes.now.held in
    let after = c.give_back.new.nodes.held in
    let gives = subst (λ (one : JobRecord). GivesParts held (option_to_list (part_dropped c.args.node one)) after)
    (rw c.records.ensures.value at c.index-records-place.is) c.give_back.ensures.given in
    rw c.change_at.ensures.records
    (left_shown c.the_index_shows_what_is_held.ensures.giving held after c.args.now c.args.node c.args.place jobs job
    c.requires.there (c.requires.on job).apart c.requires.shown gives)
