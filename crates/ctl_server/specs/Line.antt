-- The line that tells of the port.
use Rattle.std.specs.Prelude.{ℕ, List, ◌++◌, codes, decimal}

-- what a server writes once its doors are open
abbrev pub serving_line : ℕ → List ℕ
serving_line port = codes "slurmctld: serving on port " ++ decimal port ++ codes "\n"
