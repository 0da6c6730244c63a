-- What is told of a text that was refused.
use Rattle.std.specs.Prelude.{ℕ, List, codes}
use Rattle.small_texts.specs.declared.name.NameRefusal.{NameRefusal}
use Rattle.small_texts.specs.declared.name.NameRefusal.TheVariants.{BadName, Memory}

abbrev pub name_message : NameRefusal → List ℕ
name_message BadName = codes "bad name"
name_message Memory = codes "out of memory"
