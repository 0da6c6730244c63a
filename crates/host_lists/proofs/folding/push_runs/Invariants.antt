use Rattle.std.proofs.Common.{◌≡◌, ◌++◌, drop, map}
use Rattle.host_lists.specs.Folding.{continued, runs, runs_text}
use Rattle.host_lists.proofs.folding.push_runs.Given as goal

abbrev pub invariant-loop-name : goal.invariant-loop-name
invariant-loop-name l =
    l.text.items ++ runs_text (continued l.first l.last (runs (drop l.name-index (map (λ name. name.now) l.others)))) ≡ l.initial.text.items ++ runs_text (runs (map (λ name. name.now) l.names))
