-- Those behind have no lower numbers.
use Rattle.std.proofs.Common.{◌∙◌, ap, Bool, nat_lt, rules, take, tests}
use Rattle.std.specs.List.{list_any}
use Rattle.std.proofs.lemmas.Iterator.{YieldsList-from_slice}
use Rattle.std.proofs.lemmas.Iterator.Search.{any_from_yields_List}
use Rattle.std.proofs.lemmas.List.Sorted.{IsPartitionPoint-from_clause}
use Rattle.job_table.specs.declared.record.JobRecord.{JobRecord}
use Rattle.job_table.specs.Standing.{is_before}
use Rattle.job_table.specs.Table.{HaveRisingIds}
use Rattle.job_table.proofs.Earlier.{any-before, parted-ids}
use Rattle.job_table.proofs.standing.has_before.Goals as goal

pub returns : goal.returns
returns c =
    let jobs = c.records-jobs.result.now in
    let rising : HaveRisingIds jobs = rw c.records-jobs.ensures.value c.records-jobs.ensures.rising in
    let own = c.args.own.now in
    let count = c.partition_point-count in
    let is_lower : JobRecord → Bool = λ job. nat_lt job.id own.id in
    let parted = IsPartitionPoint-from_clause is_lower jobs count.result count.ensures.partitioned
    (parted-ids jobs own.id rising) (λ a r f called. search rules) in
    any_from_yields_List (is_before own) _ _ _ c.any.ensures.ran
    (YieldsList-from_slice (take count.result jobs) cc) (λ x b q k. search (rules, tests))
    ∙ any-before own jobs count.result parted.1
    ∙ ap (list_any (is_before own)) c.records-jobs.ensures.value
