use Rattle.std.proofs.Common.{◌∙◌, ◌≡◌, ap, sym, true, Some}
use Rattle.std.proofs.lemmas.Bool.{cond-true}
use Rattle.std.proofs.lemmas.List.Elements.{at_read}
use Rattle.job_table.specs.declared.change.Change.TheVariants.{Leave}
use Rattle.job_table.specs.declared.record.JobRecord.{JobRecord}
use Rattle.job_table.specs.Changes.{changed}
use Rattle.ctl_node_side.specs.Reporting.{final_of, is_batch_host, script_over}
use Rattle.ctl_node_side.proofs.jobs.end_script.Goals as goal

pub returns-then-is_batch_host-clause-jobs : goal.returns-then-is_batch_host-clause-jobs
returns-then-is_batch_host-clause-jobs c =
    let jobs = c.args.jobs.now.records in
    let node = c.args.node in
    let done = c.args.done in
    let job = c.index-records-place.result in
    let left : JobRecord → JobRecord = changed (Leave (final_of done.exit) c.args.now (Some done.exit)) in
    let over : JobRecord → JobRecord = script_over c.args.now node done in
    let hosts : is_batch_host node job.parts ≡ true =
    ap (λ (job : JobRecord). is_batch_host node job.parts) c.index-records-place.is
    ∙ ap (is_batch_host node) (sym c.as_slice.ensures) ∙ sym c.is_batch_host.ensures ∙ c.if-is_batch_host.true in
    c.leave.ensures.jobs
    ∙ c.a_change_is_of_its_place.ensures.same left over c.args.place jobs
    (at_read jobs (λ job. left job ≡ over job) c.args.place job c.requires
    (rw c.records.ensures.value at c.index-records-place.is)
    (sym (cond-true (is_batch_host node job.parts) (left job) job hosts)))
