use Rattle.std.proofs.Common.{take}
use Rattle.std.specs.List.{list_any}
use Rattle.job_table.specs.Awaiting.{AddsAwaited, awaits}
use Rattle.job_table.proofs.awaited.Awaited.of.Given as goal

abbrev pub invariant-loop-waiting : goal.invariant-loop-waiting
invariant-loop-waiting l =
    AddsAwaited (λ job. list_any (λ waiting. awaits waiting job) (take l.waiting-index l.records)) l.jobs.records
    l.initial.awaited l.awaited
