-- The outside of a call.
use Rattle.std.specs.Prelude.{ℕ, List, Option}
use Rattle.slurm_io.specs.Shelf.{ShelfFile}
use Rattle.slurm_io.specs.Wire.{Wire}
use Rattle.slurm_net.specs.Host.{Hosting}

-- The files of a shelf, where it tells them, how many reads of these failed, and the program's own input and output.
pub record Outside : Type 0 where
  pub files : Option (List ShelfFile)
  pub faults : ℕ
  pub wire : Wire

-- What else a call meets: what the errors took, where they tell it, how many of their writes failed, and the host.
pub record Beside : Type 0 where
  pub errors : Option (List ℕ)
  pub errors_faults : ℕ
  pub host : Hosting

abbrev pub outside : Option (List ShelfFile) → ℕ → Wire → Outside
outside files faults wire = record { files = files; faults = faults; wire = wire }

abbrev pub beside : Option (List ℕ) → ℕ → Hosting → Beside
beside errors errors_faults host = record { errors = errors; errors_faults = errors_faults; host = host }
