-- The jobs that are named lie together, from the first whose number is at least the target's.
use Rattle.std.proofs.Common.{rules, ◌≡◌, ◌+◌, ◌-◌, nat_lt, Bool, arith}
use Rattle.std.proofs.lemmas.List.{take_rest}
use Rattle.std.proofs.lemmas.List.Sorted.{IsPartitionPoint-from_clause}
use Rattle.job_table.specs.declared.record.JobRecord.{JobRecord}
use Rattle.job_table.proofs.Places.{parted-ids, unnamed-before, unnamed-behind}
use Rattle.job_table.proofs.targets.places_of.Goals as goal

pub returns-clause-inside : goal.returns-clause-inside
returns-clause-inside c =
    let first = c.partition_point-first.result in
    let count = c.count_of-count.result in
    let many : first + count - first ≡ count = omega arith in
    rw many (rw (take_rest c.args.jobs.now first) at c.count_of-count.ensures.front)

pub returns-clause-before : goal.returns-clause-before
returns-clause-before c =
    let jobs = c.args.jobs.now in
    let target = c.args.target.now in
    let first = c.partition_point-first in
    let is_before : JobRecord → Bool = λ job. nat_lt job.id target.id in
    let rises = parted-ids jobs target.id c.requires.rising in
    let parted = IsPartitionPoint-from_clause is_before jobs first.result first.ensures.partitioned rises
    (λ a r f called. search rules) in
    unnamed-before jobs target first.result c.requires.together first.ensures.bound parted.0

pub returns-clause-behind : goal.returns-clause-behind
returns-clause-behind c =
    let jobs = c.args.jobs.now in
    let target = c.args.target.now in
    let first = c.partition_point-first in
    let is_before : JobRecord → Bool = λ job. nat_lt job.id target.id in
    let rises = parted-ids jobs target.id c.requires.rising in
    let parted = IsPartitionPoint-from_clause is_before jobs first.result first.ensures.partitioned rises
    (λ a r f called. search rules) in
    unnamed-behind jobs target first.result c.count_of-count.result c.requires.rising c.requires.together parted.1
    (rw (take_rest jobs first.result) at c.count_of-count.ensures.ends)
