-- The jobs before the task lie before it by their numbers and indices, and so do none behind.
use Rattle.std.proofs.Common.{rules}
use Rattle.std.proofs.lemmas.List.Sorted.{IsPartitionPoint-from_clause}
use Rattle.job_table.specs.Targets.{lies_before}
use Rattle.job_table.proofs.Indices.{parted-lies, task-before, task-behind}
use Rattle.job_table.proofs.targets.place_of_task.Goals as goal

pub returns-clause-before : goal.returns-clause-before
returns-clause-before c =
    let jobs = c.args.jobs.now in
    let first = c.partition_point-first in
    let parted = IsPartitionPoint-from_clause (lies_before c.args.array c.args.index) jobs first.result
    first.ensures.partitioned
    (parted-lies jobs c.args.array c.args.index c.requires.rising c.requires.together c.requires.indices)
    (λ a r f called. search rules) in
    task-before jobs c.args.array c.args.index first.result c.requires.together first.ensures.bound parted.0

pub returns-clause-behind : goal.returns-clause-behind
returns-clause-behind c =
    let jobs = c.args.jobs.now in
    let first = c.partition_point-first in
    let parted = IsPartitionPoint-from_clause (lies_before c.args.array c.args.index) jobs first.result
    first.ensures.partitioned
    (parted-lies jobs c.args.array c.args.index c.requires.rising c.requires.together c.requires.indices)
    (λ a r f called. search rules) in
    rw c.min.ensures
    (task-behind jobs c.args.array c.args.index first.result c.requires.together c.requires.indices parted.1)
