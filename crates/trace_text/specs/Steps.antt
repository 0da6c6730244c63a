-- Steps of which each may find a fault, one after the other: what a definition writes as `do`.
use Rattle.std.specs.Prelude.{ℕ, Option, Result, Ok, Err, ok_or}
use Rattle.trace_text.specs.declared.fault.LineFault.{LineFault}
use Rattle.trace_text.specs.declared.fault.LineFault.TheVariants.{Field}

infixl 10 ◌>>=◌
abbrev pub ◌>>=◌ : {A B E : Type 0} → Result A E → (A → Result B E) → Result B E
Ok a >>= f = f a
Err e >>= f = Err e

-- what the field at a place says, or the fault that it says nothing
abbrev pub at_field : {A : Type 0} → ℕ → Option A → Result A LineFault
at_field place said = ok_or said (Field place)
