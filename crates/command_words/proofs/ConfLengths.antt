-- How long the text of a configuration is.
use Rattle.std.proofs.Common.{◌≡◌, ◌<◌, ◌^◌, ℕ, Bool, true, false, nat_lt, if◌then◌else◌, List, length, Result, Ok, Err, refl, arith}
use Rattle.std.proofs.lemmas.Bool.Decides.{nat_tests}
use Rattle.plain_data.specs.Confs.{ConfView}
use Rattle.text_values.specs.declared.conf_refusal.ConfKind.TheVariants.{OverLimit}
use Rattle.text_values.specs.declared.conf_refusal.ConfRefusal.{ConfRefusal}
use Rattle.text_values.specs.declared.conf_refusal.ConfRefusal.TheVariants.{At}
use Rattle.conf_reader.specs.Reader.{conf_in}

-- a longer text than 1 MiB says none
pub conf_is_short : (text : List ℕ) (conf : ConfView) → conf_in text ≡ Ok conf → length text < 2 ^ 32
unfolding conf_in
conf_is_short text conf is = go (nat_lt 1_048_576 (length text)) refl _ is
  where
    go : (b : Bool) → nat_lt 1_048_576 (length text) ≡ b → (read : Result ConfView ConfRefusal)
        → (if b then Err (At 0 OverLimit) else read) ≡ Ok conf → length text < 2 ^ 32
    go true e read is = absurd (cc)
    go false e read is = grind (arith, nat_tests)
