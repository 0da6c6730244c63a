-- The first word of a line, cut off, and the words of what follows it.
use Rattle.std.proofs.Common.{ℕ, zero, suc, not, cond, ◌≡◌, ◌+◌, ◌<◌, ◌≤◌, Bool, true, false, List, [], ◌∷◌, length, take, drop, map, filter, take_while, sym, refl, ap, ◌∙◌, one-add, arith}
use Rattle.std.specs.List.{prefix_len, onto_first}
use Rattle.std.proofs.lemmas.List.Sums.{take_while-cons}
use Rattle.std.proofs.lemmas.List.Splits.{slice_split-cons_yes, slice_split-cons_no}
use Rattle.std.proofs.lemmas.Bool.Decides.{nat_tests}
use Rattle.std.proofs.lemmas.Grind.{common_steps}
use Rattle.conf_reader.specs.LineWords.{Marked, quoted_behind, marked, is_blank, is_gap, begins_comment, isnt_end, pieces, bytes_of, isnt_empty, words_in}

-- the words of pieces
abbrev words_of : List (List Marked) → List (List ℕ)
words_of parts = filter isnt_empty (map bytes_of parts)

abbrev at : Bool → ℕ → Marked
at quoted b = record { byte = b; quoted = quoted }

pieces-comment : (m : Marked) (line : List Marked) → begins_comment m ≡ true → pieces (m ∷ line) ≡ [] ∷ []
pieces-comment m line e = rw (take_while-cons (λ m. not (begins_comment m)) m line, e) refl

pieces-gap : (m : Marked) (line : List Marked) → begins_comment m ≡ false → is_gap m ≡ true → pieces (m ∷ line) ≡ [] ∷ pieces line
pieces-gap m line e g = rw (take_while-cons (λ m. not (begins_comment m)) m line, e) (slice_split-cons_yes is_gap m (take_while (λ m. not (begins_comment m)) line) g)

pieces-more : (m : Marked) (line : List Marked) → begins_comment m ≡ false → is_gap m ≡ false → pieces (m ∷ line) ≡ onto_first m (pieces line)
pieces-more m line e g = rw (take_while-cons (λ m. not (begins_comment m)) m line, e) (slice_split-cons_no is_gap m (take_while (λ m. not (begins_comment m)) line) g)

-- a blank is a gap, and behind it no quote is open
blank-skipped : (b : ℕ) (line : List ℕ) → is_blank b ≡ true → words_in (b ∷ line) ≡ words_in line
unfolding words_in
blank-skipped b line e =
    let out : quoted_behind false b ≡ false = grind (arith, nat_tests) in
    let plain : begins_comment (at false b) ≡ false = grind (arith, nat_tests) in
    rw (pieces-gap (at false b) (marked (quoted_behind false b) line) plain e, out) refl

blanks-skipped : (line : List ℕ) → words_in (drop (prefix_len is_blank line) line) ≡ words_in line
blanks-skipped [] = refl
blanks-skipped (b ∷ line) = by_first (is_blank b) refl (blanks-skipped line) where
  by_first : (t : Bool) → is_blank b ≡ t → words_in (drop (prefix_len is_blank line) line) ≡ words_in line → words_in (drop (cond t (1 + prefix_len is_blank line) 0) (b ∷ line)) ≡ words_in (b ∷ line)
  by_first true e more = rw (one-add (prefix_len is_blank line)) (more ∙ sym (blank-skipped b line e))
  by_first false e more = refl

-- the first piece ends where the word does, and the others make the words of the rest
abbrev First : Bool → List ℕ → Type 0
First quoted line =
    let n = prefix_len isnt_end (marked quoted line) in
    (others : List (List Marked)) × (pieces (marked quoted line) ≡ take n (marked quoted line) ∷ others) × (words_of others ≡ words_in (drop n line))

first-comment : (quoted : Bool) (b : ℕ) (line : List ℕ) → begins_comment (at quoted b) ≡ true → First quoted (b ∷ line)
unfolding words_in
first-comment true b line e = cc
first-comment false b line e =
    let stops : isnt_end (at false b) ≡ false = grind (arith, nat_tests) in
    let none : pieces (marked false (b ∷ line)) ≡ [] ∷ [] = pieces-comment (at false b) (marked (quoted_behind false b) line) e in
    rw stops ([], none, sym (ap words_of none))

first-gap : (quoted : Bool) (b : ℕ) (line : List ℕ) → begins_comment (at quoted b) ≡ false → is_gap (at quoted b) ≡ true → First quoted (b ∷ line)
unfolding words_in
first-gap true b line e g = cc
first-gap false b line e g =
    let stops : isnt_end (at false b) ≡ false = grind (arith, nat_tests) in
    let behind : pieces (marked false (b ∷ line)) ≡ [] ∷ pieces (marked (quoted_behind false b) line) = pieces-gap (at false b) (marked (quoted_behind false b) line) e g in
    rw stops (pieces (marked (quoted_behind false b) line), behind, sym (ap words_of behind))

first-more : (quoted : Bool) (b : ℕ) (line : List ℕ) → begins_comment (at quoted b) ≡ false → is_gap (at quoted b) ≡ false → First (quoted_behind quoted b) line → First quoted (b ∷ line)
first-more quoted b line e g first =
    let goes_on : isnt_end (at quoted b) ≡ true = grind (arith, nat_tests) in
    rw (goes_on, one-add (prefix_len isnt_end (marked (quoted_behind quoted b) line))) (first.0, pieces-more (at quoted b) (marked (quoted_behind quoted b) line) e g ∙ ap (onto_first (at quoted b)) first.1, first.2)

first-by_cases : (quoted : Bool) (b : ℕ) (line : List ℕ) → First (quoted_behind quoted b) line → First quoted (b ∷ line)
first-by_cases quoted b line more = by_comment (begins_comment (at quoted b)) refl where
  by_gap : begins_comment (at quoted b) ≡ false → (t : Bool) → is_gap (at quoted b) ≡ t → First quoted (b ∷ line)
  by_gap e true g = first-gap quoted b line e g
  by_gap e false g = first-more quoted b line e g more

  by_comment : (t : Bool) → begins_comment (at quoted b) ≡ t → First quoted (b ∷ line)
  by_comment true e = first-comment quoted b line e
  by_comment false e = by_gap e (is_gap (at quoted b)) refl

first : (quoted : Bool) (line : List ℕ) → First quoted line
unfolding words_in
first quoted [] = ([], refl, refl)
first quoted (b ∷ line) = first-by_cases quoted b line (first (quoted_behind quoted b) line)

-- the bytes of the first marked ones
bytes_of-take : (n : ℕ) (quoted : Bool) (line : List ℕ) → bytes_of (take n (marked quoted line)) ≡ take n line
bytes_of-take zero quoted line = refl
bytes_of-take (suc n) quoted [] = refl
bytes_of-take (suc n) quoted (b ∷ line) = ap (λ (l : List ℕ). b ∷ l) (bytes_of-take n (quoted_behind quoted b) line)

-- nothing but a comment
only_comment : (b : ℕ) (line : List ℕ) → begins_comment (at false b) ≡ true → words_in (b ∷ line) ≡ []
unfolding words_in
only_comment b line e = ap words_of (pieces-comment (at false b) (marked (quoted_behind false b) line) e)

abbrev pub word_bytes : List ℕ → ℕ
word_bytes line = prefix_len isnt_end (marked false line)

abbrev pub behind_blanks : List ℕ → List ℕ
behind_blanks line = drop (prefix_len is_blank line) line

-- a line without a word
pub no_word : (line : List ℕ) → word_bytes (behind_blanks line) ≡ 0 → words_in line ≡ []
unfolding words_in
no_word [] e = refl
no_word (b ∷ line) e = by_first (is_blank b) refl (no_word line) e where
  stops : is_blank b ≡ false → cond (isnt_end (at false b)) (1 + prefix_len isnt_end (marked (quoted_behind false b) line)) 0 ≡ 0 → begins_comment (at false b) ≡ true
  stops plain h = grind (arith, nat_tests)

  by_first : (t : Bool) → is_blank b ≡ t → (word_bytes (behind_blanks line) ≡ 0 → words_in line ≡ []) → word_bytes (drop (cond t (1 + prefix_len is_blank line) 0) (b ∷ line)) ≡ 0 → words_in (b ∷ line) ≡ []
  by_first true f more h = blank-skipped b line f ∙ more (rw (one-add (prefix_len is_blank line)) at h)
  by_first false f more h = only_comment b line (stops f h)

-- a word that isn't empty, and what follows it
word-cut : (line : List ℕ) → 0 < word_bytes line → word_bytes line ≤ length line → words_in line ≡ take (word_bytes line) line ∷ words_in (drop (word_bytes line) line)
unfolding words_in
word-cut line some within =
    let n : ℕ = word_bytes line in
    let parts = first false line in
    let full : isnt_empty (take n line) ≡ true = grind (arith, nat_tests, common_steps) in
    rw (parts.1, bytes_of-take n false line, full) (ap (λ (ws : List (List ℕ)). take n line ∷ ws) parts.2)

pub first_cut : (line : List ℕ) → 0 < word_bytes (behind_blanks line) → word_bytes (behind_blanks line) ≤ length (behind_blanks line) → words_in line ≡ take (word_bytes (behind_blanks line)) (behind_blanks line) ∷ words_in (drop (word_bytes (behind_blanks line)) (behind_blanks line))
first_cut line some within = sym (blanks-skipped line) ∙ word-cut (behind_blanks line) some within
