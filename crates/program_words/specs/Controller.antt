-- The words of slurmctld, as a command of clap reads them.
use Rattle.std.specs.Prelude.{ℕ, Bool, true, false, if◌then◌else◌, List, [], ◌∷◌, codes, bytes_eq, Option, Some, None}
use Rattle.std.specs.Option.{option_map_or}
use Rattle.std.specs.Str.{byte}
use Rattle.clap.specs.Walk.{Row, Rule, first_of, is_empty}
use Rattle.clap.specs.Simple.{App, new_rule, new_shape, matches_of}
use Rattle.clap.specs.Faults.{fault_of}
use Rattle.clap.specs.declared.builder.action.ArgAction.TheVariants.{Set, SetTrue}

-- an option `--NAME` without a value
abbrev pub flag_named : List ℕ → Rule
flag_named name = record (new_rule name) { long = Some name; action = Some SetTrue }

-- an option `--NAME VALUE`, which may have a letter too
abbrev pub option_named : List ℕ → Option ℕ → Rule
option_named name letter = record (new_rule name) { long = Some name; short = letter; action = Some Set }

-- the command, without help and version
unfoldable pub controller : App
controller = record {
  top = record (new_shape (codes "slurmctld")) {
    rules = flag_named (codes "script") ∷ flag_named (codes "serve") ∷ flag_named (codes "run") ∷ flag_named (codes "save")
        ∷ option_named (codes "conf") (Some (byte "f")) ∷ option_named (codes "assoc") (Some (byte "a"))
        ∷ option_named (codes "state") None ∷ option_named (codes "port") None ∷ option_named (codes "workers") None
        ∷ option_named (codes "sacct") None ∷ option_named (codes "generate") None ∷ [];
    disable_help_flag = true;
    disable_version_flag = true;
  };
  subs = [];
}

-- the command accepts words, of which the first is its name
unfoldable pub is_accepted : List (List ℕ) → Bool
is_accepted words = is_empty (fault_of controller words)

-- what it finds in them then
unfoldable pub found_in : List (List ℕ) → List Row
found_in words = matches_of controller words

-- the value that was found of an option
unfoldable pub value_found : List ℕ → List Row → Option (List ℕ)
value_found name rows = first_of name rows

-- an option without a value was found
abbrev pub is_found : List ℕ → List Row → Bool
is_found name rows = option_map_or (λ text. bytes_eq text (codes "true")) (value_found name rows) false

-- what words say: which options without a value are there, and the values of the others
pub record Said : Type 0 where
  pub script : Bool
  pub serve : Bool
  pub run : Bool
  pub save : Bool
  pub conf : Option (List ℕ)
  pub assocs : Option (List ℕ)
  pub state : Option (List ℕ)
  pub port : Option (List ℕ)
  pub workers : Option (List ℕ)
  pub sacct : Option (List ℕ)
  pub generate : Option (List ℕ)

abbrev pub said_by : List Row → Said
said_by rows = record {
  script = is_found (codes "script") rows;
  serve = is_found (codes "serve") rows;
  run = is_found (codes "run") rows;
  save = is_found (codes "save") rows;
  conf = value_found (codes "conf") rows;
  assocs = value_found (codes "assoc") rows;
  state = value_found (codes "state") rows;
  port = value_found (codes "port") rows;
  workers = value_found (codes "workers") rows;
  sacct = value_found (codes "sacct") rows;
  generate = value_found (codes "generate") rows;
}

-- what words say; None where the command doesn't accept them
unfoldable pub said_in : List (List ℕ) → Option Said
said_in words = if is_accepted words then Some (said_by (found_in words)) else None
