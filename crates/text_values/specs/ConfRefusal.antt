-- Why a file was refused.
use Rattle.std.specs.Prelude.{ℕ, List, ◌++◌, codes, decimal}
use Rattle.text_values.specs.declared.conf_refusal.ConfKind.{ConfKind}
use Rattle.text_values.specs.declared.conf_refusal.ConfKind.TheVariants.{NotUtf8, BadPair, UnknownKey, BadValue, TwiceNamed, UnknownNode, NoPartition, OverLimit}
use Rattle.text_values.specs.declared.conf_refusal.ConfRefusal.{ConfRefusal}
use Rattle.text_values.specs.declared.conf_refusal.ConfRefusal.TheVariants.{At, Memory as ConfMemory}
use Rattle.text_values.specs.declared.refusal.ValueRefusal.{ValueRefusal}
use Rattle.text_values.specs.declared.refusal.ValueRefusal.TheVariants.{BadValue as BadText, Memory as ValueMemory}
use Rattle.text_values.specs.declared.conf_refusal.Fault.{Fault}
use Rattle.text_values.specs.declared.conf_refusal.Fault.TheVariants.{Refused, Memory}

-- how a kind is printed
abbrev pub kind_text : ConfKind → List ℕ
kind_text NotUtf8 = codes "NotUtf8"
kind_text BadPair = codes "BadPair"
kind_text UnknownKey = codes "UnknownKey"
kind_text BadValue = codes "BadValue"
kind_text TwiceNamed = codes "TwiceNamed"
kind_text UnknownNode = codes "UnknownNode"
kind_text NoPartition = codes "NoPartition"
kind_text OverLimit = codes "OverLimit"

-- how a refusal is printed
abbrev pub refusal_message : ConfRefusal → List ℕ
refusal_message (At line kind) = codes "conf line " ++ decimal line ++ codes ": " ++ kind_text kind
refusal_message ConfMemory = codes "out of memory"

abbrev pub of_value : ValueRefusal → Fault
of_value BadText = Refused BadValue
of_value ValueMemory = Memory
