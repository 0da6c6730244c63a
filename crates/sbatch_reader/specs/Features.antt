-- Which features a text asks for.
use Rattle.std.specs.Prelude.{ℕ, Option, option_map, List}
use Rattle.std.specs.Str.{byte}
use Rattle.plain_data.specs.declared.features.FeatureExpr.{FeatureExpr}
use Rattle.text_values.specs.Lists.{parts_in}
use Rattle.text_values.specs.Names.{name_in}

-- names that are wanted together
abbrev pub together_in : List ℕ → Option (List (List ℕ))
together_in text = parts_in name_in (byte "&") text

-- such lists, of which one is enough
unfoldable pub features_in : List ℕ → Option FeatureExpr
features_in text =
    option_map (λ alternatives. record { alternatives = alternatives }) (parts_in together_in (byte "|") text)
