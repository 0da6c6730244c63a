-- What is known of a file while it is read piece by piece.
use Rattle.std.proofs.Common.{◌≡◌, ℕ, ◌+◌, ◌≤◌, List, [], ◌++◌, length, take, drop, length-append, ap, ◌∙◌}
use Rattle.std.specs.Prelude.{Option, Some, None, IfSome, IsSomeAnd, MatchOption, Ok}
use Rattle.std.proofs.lemmas.List.{length-take-le}
use Rattle.std.proofs.Math.Seq.{take-add}
use Rattle.slurm_io.specs.Shelf.{ShelfFile, IsFileAt, ReadsFile, bytes_named}

-- of the file that was found, the bytes are the front; where none was found there are no bytes
abbrev pub IsFrontOf : Option (List ℕ) → List ℕ → Type 0
IsFrontOf found bytes = MatchOption found (bytes ≡ []) (λ file. bytes ≡ take (length bytes) file)

-- the same of the file of this name, where the files are told
abbrev pub IsFrontIn : Option (List ShelfFile) → List ℕ → List ℕ → Type 0
IsFrontIn told name bytes = IfSome told (λ files. IsFrontOf (bytes_named files name) bytes)

-- the front of a list and what follows it are a longer front
pub front_grows : (file bytes into : List ℕ) (count : ℕ) → count ≤ length into → bytes ≡ take (length bytes) file
    → take count into ≡ take count (drop (length bytes) file)
    → bytes ++ take count into ≡ take (length (bytes ++ take count into)) file
front_grows file bytes into count within front given =
    let longer : length (bytes ++ take count into) ≡ length bytes + count =
    length-append bytes (take count into) ∙ ap (λ n. length bytes + n) (length-take-le count into within) in
    rw longer (rw (take-add (length bytes) count file) (cc))

found_grows : (found : Option (List ℕ)) (bytes into : List ℕ) (count : ℕ) → count ≤ length into → IsFrontOf found bytes
    → IsSomeAnd found (λ file. IsFileAt file (length bytes) count into) → IsFrontOf found (bytes ++ take count into)
found_grows None bytes into count within front at = absurd at
found_grows (Some file) bytes into count within front at = front_grows file bytes into count within front at.0

pub IsFrontIn-more : (told : Option (List ShelfFile)) (name bytes into : List ℕ) (count : ℕ) → count ≤ length into → IsFrontIn told name bytes
    → ReadsFile {E = ℕ} told name (length bytes) (Ok count) into → IsFrontIn told name (bytes ++ take count into)
IsFrontIn-more None name bytes into count within front at = tt
IsFrontIn-more (Some files) name bytes into count within front at = found_grows (bytes_named files name) bytes into count within front at
