-- What is read of a text, or none.
use Rattle.std.proofs.Common.{◌≡◌, Option, Some, None, Result, Ok, Err, sym, refl}
use Rattle.std.specs.Prelude.{IfOk, IsErrOf}
use Rattle.text_values.specs.Refusal.{or_none}
use Rattle.text_values.specs.declared.refusal.ValueRefusal.{ValueRefusal}
use Rattle.text_values.specs.declared.refusal.ValueRefusal.TheVariants.{BadValue, Memory}

-- a reading that is exact both ways tells what the text means
pub told : {X : Type 0} (meaning : Option X) (read : Result X ValueRefusal)
    → IfOk read (λ value. meaning ≡ Some value) → (IsErrOf read BadValue → meaning ≡ None)
    → IfOk (or_none read) (λ value. value ≡ meaning)
told meaning (Ok value) is refused = sym is
told meaning (Err BadValue) is refused = sym (refused refl)
told meaning (Err Memory) is refused = search

pub ruleset readings = (told)
