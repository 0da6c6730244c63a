-- The lines of sprio.
use Rattle.std.specs.Prelude.{ℕ, Bool, true, if◌then◌else◌, List, [], ◌∷◌, ◌++◌, flat_map, codes, decimal}
use Rattle.plain_data.specs.declared.nice.Nice.{Nice}
use Rattle.plain_data.specs.declared.nice.Nice.TheVariants.{Lower, Raise}
use Rattle.reply_data.specs.declared.priority.PriorityParts.{PriorityParts}
use Rattle.reply_data.specs.declared.priority.PriorityRow.{PriorityRow}
use Rattle.reply_data.specs.declared.view.Row.{Row}
use Rattle.reply_data.specs.declared.view.Row.TheVariants.{Priority}
use Rattle.reply_data.specs.declared.view.View.{View}
use Rattle.table_texts.specs.Field.{field, cell}
use Rattle.table_texts.specs.Squeue.{id_of}

-- whose job a line is about: `%.18i %.9P %.8u` and a blank
abbrev pub job_cells : List ℕ → List ℕ → List ℕ → List ℕ
job_cells id partition user = cell 18 id ++ cell 9 partition ++ cell 8 user

-- the priority, and what it is made of but for the nice value
abbrev pub numbers_of : PriorityParts → List ℕ
numbers_of parts = parts.sum ∷ parts.age ∷ parts.fair_share ∷ parts.job_size ∷ parts.partition ∷ parts.qos ∷ []

abbrev pub number_titles : List (List ℕ)
number_titles =
    codes "PRIORITY" ∷ codes "AGE" ∷ codes "FAIRSHARE" ∷ codes "JOBSIZE" ∷ codes "PARTITION" ∷ codes "QOS" ∷ []

abbrev pub number_cell : ℕ → List ℕ
number_cell number = cell 10 (decimal number)

-- a nice value that raises the priority is negative
abbrev pub nice_text : Nice → List ℕ
nice_text (Lower number) = decimal number
nice_text (Raise number) = codes "-" ++ decimal number

-- the last column, and the end of the line
unfoldable pub nice_end : List ℕ → List ℕ
nice_end nice = field 11 true nice ++ codes "\n"

abbrev pub sprio_titles : List ℕ
sprio_titles =
    job_cells (codes "JOBID") (codes "PARTITION") (codes "USER") ++ flat_map (cell 10) number_titles
    ++ nice_end (codes "NICE")

unfoldable pub priority_line : PriorityRow → List ℕ
priority_line row =
    job_cells (id_of row.id row.array row.index) row.partition row.user
    ++ flat_map number_cell (numbers_of row.parts) ++ nice_end (nice_text row.parts.nice)

abbrev pub sprio_row : Row → List ℕ
sprio_row (Priority row) = priority_line row
sprio_row row = []

-- the lines, below their titles where these are wanted
abbrev pub sprio_text : Bool → View → List ℕ
sprio_text titles view = (if titles then sprio_titles else []) ++ flat_map sprio_row view.rows
