-- What the words of `report` tell.
use Rattle.std.specs.Prelude.{ℕ, if◌then◌else◌, List, [], drop, codes, bytes_eq, Result, Ok, Err}
use Rattle.text_values.specs.Steps.{◌>>=◌}
use Rattle.operands.specs.BadWord.{good, given}
use Rattle.operands.specs.Names.{u64_by}
use Rattle.text_values.specs.Names.{name_in}
use Rattle.operands.specs.Operands.{value_at}
use Rattle.operands.specs.Pairs.{pairs_say}
use Rattle.operands.specs.declared.bad_word.BadWord.{BadWord}
use Rattle.text_values.specs.declared.word_refusal.WordKind.{WordKind}
use Rattle.text_values.specs.declared.word_refusal.WordKind.TheVariants.{UnknownOption}
use Rattle.request_data.specs.declared.report.Report.{Report}
use Rattle.operands.specs.Starts.{starts_by, dones_by}
use Rattle.command_words.specs.declared.report.Named.{Named}

-- `run=LIST` and `done=LIST`, each of which takes the place of an earlier one of its kind
abbrev pub listed_adding : Named → List ℕ → List ℕ → Result Named WordKind
listed_adding lists key list =
    if bytes_eq key (codes "run") then given (λ starts. record lists { running = starts }) (good (starts_by list))
    else (if bytes_eq key (codes "done") then given (λ starts. record lists { done = starts }) (good (dones_by list))
    else Err UnknownOption)

abbrev pub nothing_named : Named
nothing_named = record { running = []; done = [] }

-- the boot number and the number
abbrev pub pair_in : List (List ℕ) → Result (ℕ × ℕ) BadWord
pair_in words = do
  boot ← value_at u64_by words 2
  number ← value_at u64_by words 3
  Ok (boot, number)

-- these, and then lists in any order
unfoldable pub numbers_by : List (List ℕ) → Result (ℕ × ℕ × Named) BadWord
numbers_by words = do
  pair ← pair_in words
  lists ← pairs_say listed_adding 5 nothing_named (drop 4 words)
  Ok (pair.0, pair.1, lists)

-- `report NODE BOOT NUMBER`, and then lists
unfoldable pub report_by : List (List ℕ) → Result Report BadWord
report_by words = do
  node ← value_at name_in words 1
  told ← numbers_by words
  Ok (record { node = node; boot = told.0; number = told.1; running = told.2.running; done = told.2.done })
