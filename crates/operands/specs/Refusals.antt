-- What is told of formats that were refused.
use Rattle.std.specs.Prelude.{ℕ, List, codes}
use Rattle.operands.specs.declared.format.FormatRefusal.{FormatRefusal}
use Rattle.operands.specs.declared.format.FormatRefusal.TheVariants.{BadFormat, Memory}

abbrev pub format_message : FormatRefusal → List ℕ
format_message BadFormat = codes "bad format"
format_message Memory = codes "out of memory"
