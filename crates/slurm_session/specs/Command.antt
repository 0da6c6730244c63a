-- The words of a session's program, as a command of clap reads them.
use Rattle.std.specs.Prelude.{ℕ, Bool, true, false, if◌then◌else◌, List, [], ◌∷◌, codes, Option, Some, None, option_map}
use Rattle.std.specs.Borrow.{Bor}
use Rattle.std.specs.Str.{byte}
use Rattle.small_texts.specs.Options.{◌>>=◌}
use Rattle.clap.specs.Walk.{Row, Rule, first_of, is_empty}
use Rattle.clap.specs.Simple.{App, new_rule, new_shape, matches_of, with_rule}
use Rattle.clap.specs.Faults.{fault_of}
use Rattle.clap.specs.declared.builder.action.ArgAction.TheVariants.{Set}
use Rattle.plain_data.specs.Files.{Named, named_by}
use Rattle.program_words.specs.Controller.{option_named}
use Rattle.slurm_session.specs.declared.words.SessionWords.{SessionWords}

-- a word that stands by itself, which need not be there
abbrev pub word_named : List ℕ → Rule
word_named name = record (new_rule name) { action = Some Set }

-- the command before its options
abbrev pub bare : App
bare = record {
  top = record (new_shape (codes "slurm_session")) {
    no_binary_name = true;
    disable_help_flag = true;
    disable_version_flag = true;
  };
  subs = [];
}

-- with those that name the files of a cluster
abbrev pub with_files : App → App
with_files app =
    with_rule (with_rule (with_rule app (option_named (codes "conf") (Some (byte "f"))))
    (option_named (codes "assoc") (Some (byte "a")))) (option_named (codes "state") None)

-- and with the file that has the session
abbrev pub with_all : App
with_all = with_rule (with_files bare) (word_named (codes "file"))

-- the command, without help and version
unfoldable pub command : App
command = record {
  top = record (new_shape (codes "slurm_session")) {
    rules = option_named (codes "conf") (Some (byte "f")) ∷ option_named (codes "assoc") (Some (byte "a"))
        ∷ option_named (codes "state") None ∷ word_named (codes "file") ∷ [];
    no_binary_name = true;
    disable_help_flag = true;
    disable_version_flag = true;
  };
  subs = [];
}

-- the command accepts words, which are those behind the program's name
unfoldable pub is_accepted : List (List ℕ) → Bool
is_accepted words = is_empty (fault_of command words)

-- what it finds in them then
unfoldable pub found_in : List (List ℕ) → List Row
found_in words = matches_of command words

-- the value that was found of an option, or the word that was found
unfoldable pub value_found : List ℕ → List Row → Option (List ℕ)
value_found name rows = first_of name rows

-- What words ask: the files of a cluster, and the file that has the session, if one is named.
pub record Asked : Type 0 where
  pub named : Named
  pub file : Option (List ℕ)

abbrev pub naming : List ℕ → List ℕ → List Row → Asked
naming conf assocs rows = record {
  named = record { conf = conf; assocs = assocs; state = value_found (codes "state") rows };
  file = value_found (codes "file") rows;
}

-- what was found asks this
abbrev pub asked_by : List Row → Option Asked
asked_by rows = do
  conf ← value_found (codes "conf") rows
  assocs ← value_found (codes "assoc") rows
  Some (naming conf assocs rows)

-- what words ask; None where they are off
unfoldable pub asked_in : List (List ℕ) → Option Asked
asked_in words = if is_accepted words then asked_by (found_in words) else None

abbrev pub text_of : Option (Bor (List ℕ)) → Option (List ℕ)
text_of text = option_map (λ t. t.now) text

-- what was read of the words
abbrev pub words_of : SessionWords → Asked
words_of words = record { named = named_by words.files; file = text_of words.file }
