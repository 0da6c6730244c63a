use Rattle.std.proofs.Common.{◌∙◌, ◌≡◌, length, subst, sym, true}
use Rattle.std.proofs.lemmas.List.Elements.{at_read}
use Rattle.plain_data.specs.Rows.{has_id}
use Rattle.job_table.specs.declared.record.JobRecord.{JobRecord}
use Rattle.ctl_state.specs.Index.{GivesParts}
use Rattle.ctl_nodes.specs.Failing.{HoldsParts, after_loss, loses, parts_lost}
use Rattle.ctl_nodes.proofs.GivenBack.{parts_held}
use Rattle.ctl_nodes.proofs.Lost.{left_shown, stays_of}
use Rattle.ctl_nodes.proofs.failing.fail_job.Goals as goal

pub give_back-requires-clause-there : goal.give_back-requires-clause-there
give_back-requires-clause-there c =
    let job = c.index-records-place.result in
    let read = rw c.records.ensures.value at c.index-records-place.is in
    rw c.as_slice.ensures
    (subst (HoldsParts (length c.args.nodes.now.records)) (sym read) (c.requires.holds job)).there

pub give_back-requires-clause-apart : goal.give_back-requires-clause-apart
give_back-requires-clause-apart c =
    let job = c.index-records-place.result in
    let read = rw c.records.ensures.value at c.index-records-place.is in
    rw c.as_slice.ensures
    (subst (HoldsParts (length c.args.nodes.now.records)) (sym read) (c.requires.holds job)).apart

pub give_back-requires-clause-held : goal.give_back-requires-clause-held
give_back-requires-clause-held c =
    rw c.as_slice.ensures
    (parts_held c.the_index_shows_what_is_held.ensures.parts c.args.nodes.now.held c.args.jobs.now.records c.args.place
    c.index-records-place.result c.requires.there (rw c.records.ensures.value at c.index-records-place.is)
    c.requires.shown)

pub leave_lost-requires-clause-loses : goal.leave_lost-requires-clause-loses
leave_lost-requires-clause-loses c =
    at_read c.args.jobs.now.records (λ job. loses (has_id c.args.lost.now) job ≡ true) c.args.place
    c.index-records-place.result c.requires.there (rw c.records.ensures.value at c.index-records-place.is)
    (sym c.loses.ensures ∙ c.if-loses.true)

pub returns-then-loses-clause-shown : goal.returns-then-loses-clause-shown
returns-then-loses-clause-shown c =
    let jobs = c.args.jobs.now.records in
    let job = c.index-records-place.result in
    let held = c.args.nodes.now.held in
    let lost = has_id c.args.lost.now in
    let after = c.give_back.new.nodes.held in
    let read = rw c.records.ensures.value at c.index-records-place.is in
    let gives = subst (λ (one : JobRecord). GivesParts held (parts_lost lost one.parts) after) read
    (rw c.as_slice.ensures at c.give_back.ensures.given) in
    rw c.leave_lost.ensures.jobs
    (left_shown c.the_index_shows_what_is_held.ensures.giving held after c.args.now lost c.args.place jobs job
    c.requires.there (c.requires.holds job).some c.requires.shown gives)

pub returns-else-loses-clause-jobs : goal.returns-else-loses-clause-jobs
returns-else-loses-clause-jobs c =
    let jobs = c.args.jobs.now.records in
    let lost = has_id c.args.lost.now in
    let change : JobRecord → JobRecord = after_loss c.args.now lost in
    sym (c.a_change_is_of_its_place.ensures.nothing change c.args.place jobs
    (at_read jobs (λ job. change job ≡ job) c.args.place c.index-records-place.result c.requires.there
    (rw c.records.ensures.value at c.index-records-place.is)
    (stays_of c.args.now lost c.index-records-place.result (sym c.loses.ensures ∙ c.if-loses.false))))
