-- What the words of `scontrol show` ask.
use Rattle.std.specs.Prelude.{ℕ, if◌then◌else◌, List, codes, bytes_eq, slice_get, Option, Some, None, ok_or, Result, Ok, Err}
use Rattle.text_values.specs.Steps.{◌>>=◌}
use Rattle.operands.specs.BadWord.{at_word}
use Rattle.text_values.specs.Names.{name_in}
use Rattle.operands.specs.Operands.{word_at, closed_at, maybe}
use Rattle.operands.specs.Targets.{target_by}
use Rattle.operands.specs.declared.bad_word.BadWord.{BadWord}
use Rattle.text_values.specs.declared.word_refusal.WordKind.TheVariants.{UnknownCommand}
use Rattle.request_data.specs.declared.query.Query.{Query}
use Rattle.request_data.specs.declared.query.Query.TheVariants.{ShowJob, ShowNode, ShowPartition, ShowReservation}
use Rattle.scontrol_words.specs.declared.showing.Shown.{Shown}
use Rattle.scontrol_words.specs.declared.showing.Shown.TheVariants.{Job, Node, Partition, Reservation}

-- what is shown, by its word
unfoldable pub shown_named : List ℕ → Option Shown
shown_named word =
    if bytes_eq word (codes "job") then Some Job
    else (if bytes_eq word (codes "node") then Some Node
    else (if bytes_eq word (codes "partition") then Some Partition
    else (if bytes_eq word (codes "reservation") then Some Reservation
    else None)))

-- the query of a name that may be left out
abbrev pub named_query : Shown → Option (List ℕ) → Query
named_query Job name = ShowJob None
named_query Node name = ShowNode name
named_query Partition name = ShowPartition name
named_query Reservation name = ShowReservation name

unfoldable pub job_query : List (List ℕ) → Result Query BadWord
job_query words = do
  target ← maybe target_by 4 (slice_get words 3)
  closed_at words 4 (ShowJob target)

unfoldable pub name_query : Shown → List (List ℕ) → Result Query BadWord
name_query shown words = do
  name ← maybe name_in 4 (slice_get words 3)
  closed_at words 4 (named_query shown name)

abbrev pub query_of : Shown → List (List ℕ) → Result Query BadWord
query_of Job words = job_query words
query_of shown words = name_query shown words

-- what the third word says is shown
unfoldable pub shown_in : List (List ℕ) → Result Shown BadWord
shown_in words = do
  word ← word_at words 2
  at_word 3 (ok_or (shown_named word) UnknownCommand)

-- what words ask of which the first two are `scontrol show`
unfoldable pub show_by : List (List ℕ) → Result Query BadWord
show_by words = do
  shown ← shown_in words
  query_of shown words
