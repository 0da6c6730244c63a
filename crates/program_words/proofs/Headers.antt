-- Which words go through in no request.
use Rattle.std.proofs.Common.{◌≡◌, ℕ, ◌<◌, ◌≤◌, Bool, true, false, ◌&&◌, Some, List, [], ◌∷◌, ◌++◌, length, refl, arith, length-append}
use Rattle.std.specs.Prelude.{nat_le, flat_map}
use Rattle.std.proofs.lemmas.Bool.Decides.{nat_tests}
use Rattle.line_words.specs.Words.{first_bad_word, quoted, quoted_words}
use Rattle.slurm_client.specs.Requests.{header_of}
use Rattle.program_words.specs.Asked.{go_through}

-- a list of texts that each begin with a blank has a byte for each of them
each_more : (words : List (List ℕ)) → length words ≤ length (flat_map (λ w. 32 ∷ quoted w) words)
each_more [] = omega arith
each_more (word ∷ words) =
    omega (arith, length-append (32 ∷ quoted word) (flat_map (λ w. 32 ∷ quoted w) words), each_more words)

header_length : (user name : List ℕ) (words : List (List ℕ)) → length words < length (header_of user (name ∷ words))
unfolding quoted_words
header_length user name words =
    omega (
      arith,
      length-append user (32 ∷ (quoted name ++ flat_map (λ w. 32 ∷ quoted w) words)),
      length-append (quoted name) (flat_map (λ w. 32 ∷ quoted w) words),
      each_more words,
    )

second_false : (a b : Bool) → b ≡ false → a && b ≡ false
second_false true b e = e
second_false false b e = refl

too_long : (n : ℕ) → 8192 < n → nat_le n 8192 ≡ false
too_long n more = grind (arith, nat_tests)

-- those that are more than a header has
pub many_words : (user name : List ℕ) (words : List (List ℕ)) → 8192 ≤ length words → go_through user (name ∷ words) ≡ false
many_words user name words many =
    second_false _ _ (too_long (length (header_of user (name ∷ words))) (omega (arith, many, header_length user name words)))

-- those of which one is bad
pub bad_word : (user : List ℕ) (words : List (List ℕ)) (place : ℕ) → first_bad_word words ≡ Some place
    → go_through user words ≡ false
bad_word user words place bad = rw bad refl
