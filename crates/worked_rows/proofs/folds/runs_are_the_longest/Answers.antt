use Rattle.worked_rows.proofs.Runs.{runs-longest, runs-names, runs-numbers, runs-up}
use Rattle.worked_rows.proofs.folds.runs_are_the_longest.Goals as goal

pub returns : goal.returns
returns c = record { numbers = runs-numbers; up = runs-up; names = runs-names; longest = runs-longest }
