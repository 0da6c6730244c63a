use Rattle.std.proofs.Common.{◌∙◌, ◌≡◌, sym}
use Rattle.std.proofs.lemmas.List.Elements.{at_read}
use Rattle.job_table.specs.declared.change.Change.TheVariants.{DropPart}
use Rattle.job_table.specs.declared.record.JobRecord.{JobRecord}
use Rattle.job_table.specs.Changes.{changed}
use Rattle.ctl_node_side.specs.Reporting.{reported}
use Rattle.ctl_node_side.proofs.Reported.{reported_untold}
use Rattle.ctl_node_side.proofs.jobs.report_job.Goals as goal

pub returns-then-not-is_listed-clause-jobs : goal.returns-then-not-is_listed-clause-jobs
returns-then-not-is_listed-clause-jobs c =
    let jobs = c.args.jobs.now.records in
    let job = c.index-records-place.result in
    let off : JobRecord → JobRecord = changed (DropPart c.args.node c.args.now) in
    let change : JobRecord → JobRecord = reported c.args.now c.args.node c.args.report.now in
    let read = rw c.records.ensures.value at c.index-records-place.is in
    c.leave_node.ensures.jobs
    ∙ c.a_change_is_of_its_place.ensures.same off change c.args.place jobs
    (at_read jobs (λ job. off job ≡ change job) c.args.place job c.requires.there read
    (sym (reported_untold c.args.now c.args.node c.args.report.now job (sym c.is_at.ensures ∙ c.if-not-is_at.false)
    (sym c.done_of.ensures ∙ c.in-None.is) (sym c.is_listed.ensures ∙ c.if-not-is_listed.true))))
