-- Why no job is added.
use Rattle.std.specs.Prelude.{ℕ, List, codes}
use Rattle.job_table.specs.declared.jobs.AddRefusal.{AddRefusal}
use Rattle.job_table.specs.declared.jobs.AddRefusal.TheVariants.{Full, Memory}

-- what is printed of a refusal
abbrev pub add_message : AddRefusal → List ℕ
add_message Full = codes "too many jobs"
add_message Memory = codes "out of memory"
