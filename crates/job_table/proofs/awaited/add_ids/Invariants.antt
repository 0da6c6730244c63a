use Rattle.std.proofs.Common.{take}
use Rattle.std.specs.List.{list_any}
use Rattle.job_table.specs.Awaiting.{AddsAwaited, names_by}
use Rattle.job_table.proofs.awaited.add_ids.Given as goal

abbrev pub invariant-loop-id : goal.invariant-loop-id
invariant-loop-id l =
    AddsAwaited (λ job. list_any (names_by l.kind job) (take l.id-index l.ids)) l.jobs.records l.fn.awaited l.awaited
