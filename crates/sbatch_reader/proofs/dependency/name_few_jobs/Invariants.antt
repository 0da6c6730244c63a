use Rattle.std.proofs.Common.{◌≡◌, ◌+◌, length, take, sum_by}
use Rattle.plain_data.specs.declared.dependency.DepItem.{DepItem}
use Rattle.sbatch_reader.proofs.dependency.name_few_jobs.Given as goal

abbrev pub invariant-loop-item : goal.invariant-loop-item
invariant-loop-item l = l.left + sum_by (λ (item : DepItem). length item.ids) (take l.item-index l.items) ≡ 64
