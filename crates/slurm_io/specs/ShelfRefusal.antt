-- What is said of a count of faults by what became of a file that was to be read.
use Rattle.std.specs.Prelude.{◌≡◌, ℕ, Result, MatchResult}
use Rattle.slurm_io.specs.Faults.{CountsOne}
use Rattle.slurm_io.specs.declared.shelf.ShelfRefusal.{ShelfRefusal}
use Rattle.slurm_io.specs.declared.shelf.ShelfRefusal.TheVariants.{Failed, Memory}

-- a failed read was counted once, and want of memory left the count as it was
abbrev pub CountsRefusal : ℕ → ℕ → ShelfRefusal → Type 0
CountsRefusal before after Failed = CountsOne before after
CountsRefusal before after Memory = after ≡ before

-- a file that was read left the count as it was
abbrev pub CountsReading : {T : Type 0} → ℕ → ℕ → Result T ShelfRefusal → Type 0
CountsReading before after result = MatchResult result (λ _. after ≡ before) (CountsRefusal before after)
