-- Why a value is no good.
use Rattle.std.specs.Prelude.{ℕ, List, codes, Option, Some, None, Result, Ok, Err}
use Rattle.small_texts.specs.declared.memory_error.Memory.{Memory as NoMemory}
use Rattle.small_texts.specs.declared.name.NameRefusal.{NameRefusal}
use Rattle.small_texts.specs.declared.name.NameRefusal.TheVariants.{BadName, Memory as NameMemory}
use Rattle.text_values.specs.declared.refusal.ValueRefusal.{ValueRefusal}
use Rattle.text_values.specs.declared.refusal.ValueRefusal.TheVariants.{BadValue, Memory}

-- how it is printed
abbrev pub value_message : ValueRefusal → List ℕ
value_message BadValue = codes "bad value"
value_message Memory = codes "out of memory"

abbrev pub of_name : NameRefusal → ValueRefusal
of_name BadName = BadValue
of_name NameMemory = Memory

-- what was read, or none where the text is no good; want of memory stands apart
abbrev pub or_none : {A : Type 0} → Result A ValueRefusal → Result (Option A) NoMemory
or_none (Ok value) = Ok (Some value)
or_none (Err BadValue) = Ok None
or_none (Err Memory) = Err (record {})
