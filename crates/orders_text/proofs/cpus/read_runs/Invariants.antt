use Rattle.std.proofs.Common.{◌≡◌, ℕ, List, length}
use Rattle.orders_text.specs.Fields.{AreCpus}
use Rattle.table_texts.specs.Ranges.{ranges_text}
use Rattle.orders_text.proofs.Runs.{LeftOver}
use Rattle.orders_text.proofs.cpus.read_runs.Given as goal

-- of numbers that are printed so, what was read stands in front, and the rest of the text is that of the others
abbrev pub invariant-loop-rest : goal.invariant-loop-rest
invariant-loop-rest l = (cpus : List ℕ) → AreCpus cpus → ranges_text cpus ≡ l.text → LeftOver l.cpus l.rest cpus

abbrev pub decreases-loop-rest : goal.decreases-loop-rest
decreases-loop-rest l = length l.rest
