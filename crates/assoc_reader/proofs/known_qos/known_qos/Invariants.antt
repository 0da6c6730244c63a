use Rattle.std.proofs.Common.{ℕ, ◌≡◌, ◌||◌, List, bytes_eq}
use Rattle.std.specs.HashSet.{contains}
use Rattle.std.specs.List.{list_any}
use Rattle.std.specs.Option.{option_copied}
use Rattle.small_texts.specs.Fields.{fields, fields_of_rest}
use Rattle.assoc_reader.specs.Options.{text_left}
use Rattle.assoc_reader.specs.Qos.{names_qos}
use Rattle.assoc_reader.proofs.known_qos.known_qos.Given as goal

abbrev pub decreases-loop-rest : goal.decreases-loop-rest
decreases-loop-rest l = text_left (option_copied l.rest)

abbrev pub invariant-loop-rest : goal.invariant-loop-rest
invariant-loop-rest l =
    (name : List ℕ) → (contains bytes_eq l.known name || list_any (names_qos name) (fields_of_rest 10 (option_copied l.rest))) ≡ list_any (names_qos name) (fields 10 l.file)
