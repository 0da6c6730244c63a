-- The names of the files that a cluster is opened from, as texts.
use Rattle.std.specs.Prelude.{ℕ, List, Option, option_map}
use Rattle.std.specs.Borrow.{Bor}
use Rattle.plain_data.specs.declared.files.FileNames.{FileNames}

-- the two files of a cluster, and that of a saved state where it goes on from one
pub record Named : Type 0 where
  pub conf : List ℕ
  pub assocs : List ℕ
  pub state : Option (List ℕ)

-- a text that is there or not
abbrev pub text_of : Option (Bor (List ℕ)) → Option (List ℕ)
text_of text = option_map (λ t. t.now) text

-- the files that names name
abbrev pub named_by : FileNames → Named
named_by names = record { conf = names.conf.now; assocs = names.assocs.now; state = text_of names.state }
