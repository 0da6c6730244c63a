-- Why an association file was refused.
use Rattle.std.specs.Prelude.{ℕ, List, ◌++◌, codes, decimal}
use Rattle.text_values.specs.declared.refusal.ValueRefusal.{ValueRefusal}
use Rattle.text_values.specs.declared.refusal.ValueRefusal.TheVariants.{BadValue as BadText, Memory as ValueMemory}
use Rattle.assoc_reader.specs.declared.refusal.AssocKind.{AssocKind}
use Rattle.assoc_reader.specs.declared.refusal.AssocKind.TheVariants.{NotAscii, BadLine, UnknownKey, BadValue, TwiceNamed, UnknownParent, OverLimit, NoCluster}
use Rattle.assoc_reader.specs.declared.refusal.AssocRefusal.{AssocRefusal}
use Rattle.assoc_reader.specs.declared.refusal.AssocRefusal.TheVariants.{At, Memory as FileMemory}
use Rattle.assoc_reader.specs.declared.refusal.Fault.{Fault}
use Rattle.assoc_reader.specs.declared.refusal.Fault.TheVariants.{Refused, Memory}

-- how a kind is printed
abbrev pub kind_text : AssocKind → List ℕ
kind_text NotAscii = codes "NotAscii"
kind_text BadLine = codes "BadLine"
kind_text UnknownKey = codes "UnknownKey"
kind_text BadValue = codes "BadValue"
kind_text TwiceNamed = codes "TwiceNamed"
kind_text UnknownParent = codes "UnknownParent"
kind_text OverLimit = codes "OverLimit"
kind_text NoCluster = codes "NoCluster"

-- how a refusal is printed
abbrev pub refusal_message : AssocRefusal → List ℕ
refusal_message (At line kind) = codes "assoc line " ++ decimal line ++ codes ": " ++ kind_text kind
refusal_message FileMemory = codes "out of memory"

-- a value that wasn't read, as a fault of its line
abbrev pub of_value : ValueRefusal → Fault
of_value BadText = Refused BadValue
of_value ValueMemory = Memory
