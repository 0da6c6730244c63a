use Rattle.std.proofs.Common.{take}
use Rattle.std.specs.List.{list_any}
use Rattle.job_table.specs.Awaiting.{AddsAwaited, names_in}
use Rattle.job_table.proofs.awaited.add_items.Given as goal

abbrev pub invariant-loop-item : goal.invariant-loop-item
invariant-loop-item l =
    AddsAwaited (λ job. list_any (names_in job) (take l.item-index l.items)) l.jobs.records l.fn.awaited l.awaited
