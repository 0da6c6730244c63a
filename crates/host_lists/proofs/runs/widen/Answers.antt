use Rattle.std.proofs.Common.{◌<◌, ◌||◌, List, length, refl, ap, ◌∙◌, arith}
use Rattle.host_lists.specs.declared.runs.Run.{Run}
use Rattle.host_lists.specs.Runs.{in_run, in_runs}
use Rattle.host_lists.proofs.RunLemmas.{widened}
use Rattle.host_lists.proofs.runs.widen.Goals as goal

pub returns-then-run-known-clause-widened : goal.returns-then-run-known-clause-widened
returns-then-run-known-clause-widened c = λ number.
    let within : c.loop-place.place < length c.loop-place.runs = omega (arith, c.loop-place.auto.runs) in
    widened c.loop-place.runs c.loop-place.place c.max.result _ c.args.run (record { first = 0; end = 0 }) within refl c.if-known-run.true c.if-run-known.true c.max.ensures number
    ∙ ap (λ (runs : List Run). in_runs runs number || in_run c.args.run number) c.loop-place.invariant.kept
