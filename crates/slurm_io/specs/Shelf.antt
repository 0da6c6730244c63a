-- Files as contracts see them, and what is said of a read of one.
use Rattle.std.specs.Prelude.{◌≡◌, ℕ, ◌<◌, ◌≤◌, ◌↔◌, Bool, List, length, take, drop, find, bytes_eq}
use Rattle.std.specs.Prelude.{Option, option_map, IfSome, IsSomeAnd, Result, IfOk, MatchResult}

-- a file: its name and its bytes
pub record ShelfFile : Type 0 where
  pub name : List ℕ
  pub bytes : List ℕ

abbrev pub is_named : List ℕ → ShelfFile → Bool
is_named name file = bytes_eq file.name name

-- the bytes of the first file of this name, where there is one
abbrev pub bytes_named : List ShelfFile → List ℕ → Option (List ℕ)
bytes_named files name = option_map (λ (file : ShelfFile). file.bytes) (find (is_named name) files)

-- So many bytes of a file, from the offset on, stand at the front of a buffer. Where the buffer isn't empty, there are
-- none exactly where the offset is at the file's end or past it.
abbrev pub IsFileAt : List ℕ → ℕ → ℕ → List ℕ → Type 0
IsFileAt file offset count into =
    (take count into ≡ take count (drop offset file))
    × (0 < length into → ((count ≡ 0) ↔ (length file ≤ offset)))

-- where the files are told, a read that didn't fail found a file of this name and gave its bytes from the offset on
abbrev pub ReadsFile : {E : Type 0} → Option (List ShelfFile) → List ℕ → ℕ → Result ℕ E → List ℕ → Type 0
ReadsFile told name offset result into =
    IfSome told (λ files. IfOk result (λ count.
    IsSomeAnd (bytes_named files name) (λ file. IsFileAt file offset count into)))

-- a buffer stays as it was behind the bytes that were read, and all of it where the read failed
abbrev pub KeepsRest : {E : Type 0} → List ℕ → List ℕ → Result ℕ E → Type 0
KeepsRest before after result =
    MatchResult result (λ count. drop count after ≡ drop count before) (λ _. after ≡ before)
