-- All that are named lie where it looks.
use Rattle.std.proofs.Common.{◌≡◌, ◌||◌, ◌∙◌, ap, arith, get_or, nat_eq, take}
use Rattle.std.specs.HashSet.{contains}
use Rattle.std.specs.List.{list_any}
use Rattle.std.proofs.lemmas.List.{take_all}
use Rattle.job_table.specs.declared.record.JobRecord.{JobRecord}
use Rattle.job_table.specs.Targets.{is_named}
use Rattle.job_table.proofs.Awaiting.{finds_number, number-found}
use Rattle.job_table.proofs.awaited.add_tasks.Goals as goal

pub returns : goal.returns
returns c = λ k d inside.
    let named = is_named c.args.target.now in
    let job = get_or c.args.jobs.now.records k d in
    let span = c.span_of-span.result.now in
    let whole : take c.loop-job.job-index span ≡ span = take_all c.loop-job.job-index span (omega arith) in
    c.loop-job.invariant job.id
    ∙ ap (λ found. contains nat_eq c.args.numbers.now job.id || found)
    (ap (λ jobs. finds_number named jobs job.id) whole
    ∙ ap (list_any (λ (other : JobRecord). nat_eq job.id other.id)) c.span_of-span.ensures
    ∙ number-found named c.args.jobs.now.records c.requires.rising k d inside)
