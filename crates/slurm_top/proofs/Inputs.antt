-- How a script in the input is read to its end.
use Rattle.std.proofs.Common.{◌≡◌, ℕ, ◌+◌, ◌<◌, ◌≤◌, List, ◌++◌, length, Option, None, Some, IfSome, IsSomeAnd, Vec, Ok, Err, refl, sym, ap, ◌∙◌, subst, arith, take, length-take, length-append}
use Rattle.std.specs.declared.alloc.Global.{Global}
use Rattle.std.specs.Io.KnownBytes.{Consumes}
use Rattle.std.proofs.KnownBytes.{Consumes-trans, Consumes-kept}
use Rattle.slurm_io.specs.Faults.{CountsOne}
use Rattle.slurm_io.specs.Shelf.{ShelfFile, bytes_named}
use Rattle.slurm_io.specs.Wire.{Wire}
use Rattle.slurm_top.specs.declared.refusal.ScriptRefusal.{ScriptRefusal}
use Rattle.slurm_top.specs.declared.refusal.ScriptRefusal.TheVariants.{ReadFault, TooLong, Memory}
use Rattle.slurm_top.specs.Scripts.{Brings, IsInputRead, IsShort, IsLong}

-- what was read so far and what a read brought
pub more_read : (old mid new : Wire) (bytes bytes' : List ℕ) (most count : ℕ) → Consumes old.left mid.left bytes
    → Brings mid new bytes bytes' most (Ok count) → Consumes old.left new.left bytes'
more_read old mid new bytes bytes' most count consumed brings =
    subst (Consumes old.left new.left) (sym brings.0.2) (Consumes-trans _ _ _ _ _ consumed brings.0.1)

-- a read that brought so many bytes made them so many more
pub more_bytes : (mid new : Wire) (bytes bytes' : List ℕ) (most count : ℕ) → Brings mid new bytes bytes' most (Ok count)
    → length bytes' ≡ length bytes + count
more_bytes mid new bytes bytes' most count brings = rw (brings.0.2, length-append, brings.0.3) refl

-- the input is at its end
pub input_ended : (old mid new : Wire) (bytes : List ℕ) (script : Vec ℕ Global) (most : ℕ) → Consumes old.left mid.left bytes
    → mid.reads ≡ old.reads → IsShort bytes → Brings mid new bytes script.items most (Ok 0) → IsInputRead old new (Ok script)
input_ended old mid new bytes script most consumed reads short brings = (
  more_read old mid new bytes script.items most 0 consumed brings,
  brings.1 refl,
  omega (arith, short, more_bytes mid new bytes script.items most 0 brings),
  brings.3 ∙ reads,
)

-- no script was read
pub input_refused : (old mid new : Wire) (bytes bytes' : List ℕ) (most : ℕ) (refusal : ScriptRefusal)
    → Consumes old.left mid.left bytes → mid.reads ≡ old.reads → IsShort bytes
    → Brings mid new bytes bytes' most (Err refusal) → IsInputRead old new (Err refusal)
input_refused old mid new bytes bytes' most ReadFault consumed reads short brings = (
  (bytes, Consumes-kept _ _ _ _ consumed brings.0, short),
  subst (λ n. CountsOne n new.reads) reads brings.2,
)
input_refused old mid new bytes bytes' most TooLong consumed reads short brings = absurd brings
input_refused old mid new bytes bytes' most Memory consumed reads short brings = (
  (bytes ++ brings.0.0, Consumes-trans _ _ _ _ _ consumed brings.0.1),
  brings.1 ∙ reads,
)

-- a file of which so much was read is longer than a script may be
long_file : (file : Option (List ℕ)) (bytes : List ℕ) → IsSomeAnd file (λ all. bytes ≡ take 65537 all) → 65536 < length bytes
    → IsSomeAnd file IsLong
long_file None bytes is long = absurd is
long_file (Some all) bytes is long = omega (arith, ap length is, length-take 65537 all, long)

pub long_told : (told : Option (List ShelfFile)) (name bytes : List ℕ)
    → IfSome told (λ files. IsSomeAnd (bytes_named files name) (λ all. bytes ≡ take 65537 all)) → 65536 < length bytes
    → IfSome told (λ files. IsSomeAnd (bytes_named files name) IsLong)
long_told None name bytes is long = tt
long_told (Some files) name bytes is long = long_file (bytes_named files name) bytes is long
