use Rattle.std.proofs.Common.{◌+◌, Bool, length, drop, rules}
use Rattle.std.specs.Prelude.{nat_lt}
use Rattle.std.proofs.lemmas.List.{take_rest}
use Rattle.std.proofs.lemmas.List.Sorted.{IsPartitionPoint-from_clause}
use Rattle.saved_data.specs.declared.job.SavedJob.{SavedJob}
use Rattle.ctl_restore.proofs.Numbered.{members-within, parted, rising-rest}
use Rattle.ctl_restore.proofs.arrays.within.Goals as goal

pub returns : goal.returns
returns c =
    let jobs = c.args.jobs.now in
    let array = c.args.array.now in
    let first = c.partition_point-first.result in
    let count = c.partition_point-count.result in
    let end = array.id + length array.indices in
    let is_before : SavedJob → Bool = λ job. nat_lt job.id array.id in
    let is_inside : SavedJob → Bool = λ job. nat_lt job.id end in
    let before = IsPartitionPoint-from_clause is_before jobs first c.partition_point-first.ensures.partitioned
    (parted (λ (job : SavedJob). job.id) jobs array.id c.requires) (λ a r f called. search rules) in
    let rest = drop first jobs in
    let inside = IsPartitionPoint-from_clause is_inside rest count
    (rw (take_rest jobs first) at c.partition_point-count.ensures.partitioned)
    (parted (λ (job : SavedJob). job.id) rest end (rising-rest (λ (job : SavedJob). job.id) jobs first c.requires)) (λ a r f called. search rules) in
    rw (take_rest jobs first) (members-within array jobs first count c.partition_point-first.ensures.bound
    (rw (take_rest jobs first) at c.partition_point-count.ensures.bound) before.0 before.1 inside.0 inside.1)
