-- Single values of a line.
use Rattle.std.specs.Prelude.{ℕ, ◌-◌, List, [], ◌∷◌, ◌++◌, Option, Some, None, flat_map, codes, decimal}
use Rattle.trace_text.specs.declared.job.TraceId.{TraceId}
use Rattle.trace_text.specs.declared.job.TraceId.TheVariants.{Job, Task, WaitingTasks, Component}

-- which job it is, as sacct prints it
abbrev pub id_text : TraceId → List ℕ
id_text (Job job) = decimal job
id_text (Task array task) = decimal array ++ (codes "_" ++ decimal task)
id_text (WaitingTasks array) = decimal array ++ codes "_[]"
id_text (Component job place) = decimal job ++ (codes "+" ++ decimal place)

-- a comma, and the number where it is known
abbrev pub known : Option ℕ → List ℕ
known (Some number) = codes "," ++ decimal number
known None = codes ","

-- a comma, and the name where there is one
abbrev pub name_text : Option (List ℕ) → List ℕ
name_text (Some name) = codes "," ++ name
name_text None = codes ","

abbrev pub later_name : List ℕ → List ℕ
later_name name = codes " " ++ name

-- a comma, and the names with blanks between them
abbrev pub names_text : List (List ℕ) → List ℕ
names_text [] = codes ","
names_text (name ∷ others) = codes "," ++ (name ++ flat_map later_name others)

abbrev pub wait_known : Option ℕ → Option ℕ → Option ℕ
wait_known (Some submit) (Some start) = Some (start - submit)
wait_known (Some submit) None = None
wait_known None start = None
