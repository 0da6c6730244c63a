-- What is found among files as they are kept, and as they are told.
use Rattle.std.proofs.Common.{◌≡◌, ℕ, Bool, true, false, List, [], ◌∷◌, map, Some, None, if◌then◌else◌, refl, ap, sym, ◌∙◌}
use Rattle.std.specs.Prelude.{◌⊎◌, find, Contains, Option, option_map, String, Vec}
use Rattle.std.specs.declared.alloc.Global.{Global}
use Rattle.slurm_io.specs.MemShelf.{told_file}
use Rattle.slurm_io.specs.Shelf.{ShelfFile, is_named, bytes_named}

-- in a list of changed elements, the change of what is found by its change
pub find-map : {A B : Type 0} (p : B → Bool) (f : A → B) (xs : List A) → find p (map f xs) ≡ option_map f (find (λ x. p (f x)) xs)
find-map p f [] = refl
find-map p f (x ∷ xs) =
    elim (p (f x)) as (λ b. (if b then Some (f x) else find p (map f xs)) ≡ option_map f (if b then Some x else find (λ y. p (f y)) xs)) [
      | true ↦ refl
      | false ↦ find-map p f xs
    ]

-- the bytes of the file that is found
pub bytes_found : (files : List (String Global × Vec ℕ Global)) (name : List ℕ) (found : Option (String Global × Vec ℕ Global))
    → found ≡ find (λ file. is_named name (told_file file)) files
    → bytes_named (map told_file files) name ≡ option_map (λ (file : ShelfFile). file.bytes) (option_map told_file found)
bytes_found files name found is =
    ap (option_map (λ (file : ShelfFile). file.bytes)) (find-map (is_named name) told_file files ∙ ap (option_map told_file) (sym is))

-- why a read fails, of the same numbers and the same file
pub fails_alike : (failing failing' : List ℕ) (number number' : ℕ) (found found' : Option (List ℕ)) → failing ≡ failing' → number ≡ number' → found ≡ found'
    → Contains failing number ⊎ (found ≡ None) → Contains failing' number' ⊎ (found' ≡ None)
fails_alike failing failing' number number' found found' p q r why = rw (← p, ← q, ← r) why
