-- The lines of a saved state's text, and the first line of a text that is none.
use Rattle.std.specs.Prelude.{All, flat_map}
use Rattle.std.proofs.Common.{◌≡◌, ℕ, zero, suc, ◌==◌, Bool, true, false, ◌||◌, if◌then◌else◌, List, [], ◌∷◌, ◌++◌, map, refl, sym, ap, ◌∙◌, arith, append_assoc}
use Rattle.std.specs.List.{list_all, onto_first, concat}
use Rattle.std.proofs.lemmas.Bool.Decides.{nat_tests}
use Rattle.std.proofs.lemmas.List.{append-nil}
use Rattle.line_words.specs.Words.{is_word_byte, are_words, double_quoted, is_bare, quoted, quoted_words}
use Rattle.saved_data.specs.declared.saved.Saved.{Saved}
use Rattle.state_save.specs.Parts.{version_text, end_text, partition_line, node_line, dropped_line, usage_line, reservation_line, array_line, job_line, placed_line, front_text, back_text, with_tail}
use Rattle.state_save.specs.Reading.{lines_of}
use Rattle.state_save.specs.Savable.{PartitionFits, NodeFits, DroppedFits, UsageFits, ReservationFits, ArrayFits, JobFits, PlacedFits, IsSavable}
use Rattle.state_save.specs.Saved.{version_words, moment_words, partition_words, node_words, dropped_words, usage_words, reservation_words, array_words, job_words, placed_words, end_words, saved_lines, line_text, saved_text}
use Rattle.state_save.proofs.Bytes.{lacks, other_than, all_append, all_weaker, both_left, both_right}
use Rattle.state_save.proofs.JobWords.{job_good}
use Rattle.state_save.proofs.OneLine.{lines_of-line}
use Rattle.state_save.proofs.LineWords.{head_good, partition_good, node_good, dropped_good, usage_good, reservation_good, array_good, placed_good}

-- a line has its end at its end alone

word_no_end : (b : ℕ) → is_word_byte b ≡ true → other_than 10 b ≡ true
word_no_end b e = grind (arith, nat_tests)

double_lacks : (b : ℕ) → other_than 10 b ≡ true → lacks 10 (double_quoted b) ≡ true
double_lacks b other = by_mark (b == 34 || b == 92) where
  by_mark : (t : Bool) → lacks 10 (if t then 92 ∷ b ∷ [] else b ∷ []) ≡ true
  by_mark true = rw other refl
  by_mark false = rw other refl

inside_lacks : (word : List ℕ) → lacks 10 word ≡ true → lacks 10 (flat_map double_quoted word) ≡ true
inside_lacks [] lack = refl
inside_lacks (b ∷ word) lack =
    all_append (other_than 10) (double_quoted b) (flat_map double_quoted word)
    (double_lacks b (both_left (other_than 10 b) (lacks 10 word) lack)) (inside_lacks word (both_right (other_than 10 b) (lacks 10 word) lack))

quoted_lacks : (word : List ℕ) → list_all is_word_byte word ≡ true → lacks 10 (quoted word) ≡ true
unfolding quoted
quoted_lacks word good = by_bare (is_bare word) where
  lack : lacks 10 word ≡ true
  lack = all_weaker is_word_byte (other_than 10) word_no_end word good

  by_bare : (t : Bool) → lacks 10 (if t then word else 34 ∷ flat_map double_quoted word ++ 34 ∷ []) ≡ true
  by_bare true = lack
  by_bare false = all_append (other_than 10) (flat_map double_quoted word) (34 ∷ []) (inside_lacks word lack) refl

others_lack : (words : List (List ℕ)) → are_words words ≡ true → lacks 10 (flat_map (λ w. 32 ∷ quoted w) words) ≡ true
others_lack [] good = refl
others_lack (word ∷ words) good =
    all_append (other_than 10) (quoted word) (flat_map (λ w. 32 ∷ quoted w) words)
    (quoted_lacks word (both_left (list_all is_word_byte word) (are_words words) good))
    (others_lack words (both_right (list_all is_word_byte word) (are_words words) good))

words_lack : (words : List (List ℕ)) → are_words words ≡ true → lacks 10 (quoted_words words) ≡ true
unfolding quoted_words
words_lack [] good = refl
words_lack (word ∷ words) good =
    all_append (other_than 10) (quoted word) (flat_map (λ w. 32 ∷ quoted w) words)
    (quoted_lacks word (both_left (list_all is_word_byte word) (are_words words) good))
    (others_lack words (both_right (list_all is_word_byte word) (are_words words) good))

-- lines of a text

lines_of-words : (words : List (List ℕ)) (rest : List ℕ) → are_words words ≡ true → lines_of (line_text words ++ rest) ≡ line_text words ∷ lines_of rest
unfolding line_text
lines_of-words words rest good =
    ap lines_of (append_assoc (quoted_words words) (10 ∷ []) rest) ∙ lines_of-line (quoted_words words) rest (words_lack words good)

lines_of-all : (lines : List (List (List ℕ))) → All (λ words. are_words words ≡ true) lines → lines_of (flat_map line_text lines) ≡ map line_text lines
lines_of-all [] good = refl
lines_of-all (words ∷ lines) good =
    lines_of-words words (flat_map line_text lines) (good 0 words (omega arith))
    ∙ ap (λ ls. line_text words ∷ ls) (lines_of-all lines (λ k d within. good (suc k) d (omega arith)))

concat-onto_first : (b : ℕ) (lines : List (List ℕ)) → concat (onto_first b lines) ≡ b ∷ concat lines
concat-onto_first b [] = refl
concat-onto_first b (line ∷ lines) = refl

concat-lines : (text : List ℕ) → concat (lines_of text) ≡ text
concat-lines [] = refl
concat-lines (b ∷ text) = by_test (concat-lines text) (b == 10) where
  by_test : concat (lines_of text) ≡ text → (t : Bool) → concat (if t then (b ∷ []) ∷ lines_of text else onto_first b (lines_of text)) ≡ b ∷ text
  by_test same true = ap (λ t. b ∷ t) same
  by_test same false = concat-onto_first b (lines_of text) ∙ ap (λ t. b ∷ t) same

concat-map : (lines : List (List (List ℕ))) → concat (map line_text lines) ≡ flat_map line_text lines
concat-map [] = refl
concat-map (words ∷ lines) = ap (λ t. line_text words ++ t) (concat-map lines)

-- all lines of a saved state

first_of : (words : List (List ℕ)) (rest : List (List (List ℕ))) → are_words words ≡ true → All (λ ws. are_words ws ≡ true) rest → All (λ ws. are_words ws ≡ true) (words ∷ rest)
first_of words rest good others zero d within = good
first_of words rest good others (suc k) d within = others k d (omega arith)

all_of : {X : Type 0} (words : X → List (List ℕ)) (fits : X → Type 0) → ((x : X) → fits x → are_words (words x) ≡ true)
    → (xs : List X) → All fits xs → (rest : List (List (List ℕ))) → All (λ ws. are_words ws ≡ true) rest → All (λ ws. are_words ws ≡ true) (map words xs ++ rest)
all_of words fits good [] all rest others = others
all_of words fits good (x ∷ xs) all rest others =
    first_of (words x) (map words xs ++ rest) (good x (all 0 x (omega arith)))
    (all_of words fits good xs (λ j e inside. all (suc j) e (omega arith)) rest others)

none_of : All (λ ws. are_words ws ≡ true) []
none_of k d within = absurd (omega arith)

all_good : (saved : Saved) → IsSavable saved → All (λ ws. are_words ws ≡ true) (saved_lines saved)
unfolding saved_lines
all_good saved is =
    first_of version_words (moment_words saved.moment saved.next_id ∷ (map partition_words saved.partitions ++ (map node_words saved.nodes
    ++ (map dropped_words saved.dropped ++ (map usage_words saved.usage ++ (map reservation_words saved.reservations ++ (map array_words saved.arrays
    ++ (map job_words saved.jobs ++ (map placed_words saved.plan ++ end_words ∷ []))))))))) refl (first_of (moment_words saved.moment saved.next_id) _
    (head_good (record { moment = saved.moment; next_id = saved.next_id }) (record { moment = is.moment; next_id = is.next_id }))
    (all_of partition_words PartitionFits partition_good saved.partitions is.partitions _
    (all_of node_words NodeFits node_good saved.nodes is.nodes _
    (all_of dropped_words DroppedFits dropped_good saved.dropped is.dropped _
    (all_of usage_words UsageFits usage_good saved.usage is.usage _
    (all_of reservation_words ReservationFits reservation_good saved.reservations is.reservations _
    (all_of array_words ArrayFits array_good saved.arrays is.arrays _
    (all_of job_words JobFits job_good saved.jobs is.jobs _
    (all_of placed_words PlacedFits placed_good saved.plan is.plan (end_words ∷ []) (first_of end_words [] refl none_of))))))))))

map_more : {X : Type 0} (words : X → List (List ℕ)) (xs : List X) (rest : List (List (List ℕ)))
    → map line_text (map words xs ++ rest) ≡ map (λ x. line_text (words x)) xs ++ map line_text rest
map_more words [] rest = refl
map_more words (x ∷ xs) rest = ap (λ ls. line_text (words x) ∷ ls) (map_more words xs rest)

lines_mapped : (saved : Saved) → map line_text (saved_lines saved)
    ≡ version_text ∷ line_text (moment_words saved.moment saved.next_id) ∷ with_tail saved (end_text ∷ [])
unfolding saved_lines
lines_mapped saved =
    ap (λ ls. version_text ∷ line_text (moment_words saved.moment saved.next_id) ∷ ls)
    (map_more partition_words saved.partitions _ ∙ ap (λ ls. map partition_line saved.partitions ++ ls)
    (map_more node_words saved.nodes _ ∙ ap (λ ls. map node_line saved.nodes ++ ls)
    (map_more dropped_words saved.dropped _ ∙ ap (λ ls. map dropped_line saved.dropped ++ ls)
    (map_more usage_words saved.usage _ ∙ ap (λ ls. map usage_line saved.usage ++ ls)
    (map_more reservation_words saved.reservations _ ∙ ap (λ ls. map reservation_line saved.reservations ++ ls)
    (map_more array_words saved.arrays _ ∙ ap (λ ls. map array_line saved.arrays ++ ls)
    (map_more job_words saved.jobs _ ∙ ap (λ ls. map job_line saved.jobs ++ ls)
    (map_more placed_words saved.plan (end_words ∷ [])))))))))

pub lines_of-saved : (saved : Saved) → IsSavable saved → lines_of (saved_text saved)
    ≡ version_text ∷ line_text (moment_words saved.moment saved.next_id) ∷ with_tail saved (end_text ∷ [])
unfolding saved_text
lines_of-saved saved is = lines_of-all (saved_lines saved) (all_good saved is) ∙ lines_mapped saved

-- the text that has these lines
pub text_of_lines : (text : List ℕ) (saved : Saved)
    → lines_of text ≡ version_text ∷ line_text (moment_words saved.moment saved.next_id) ∷ with_tail saved (end_text ∷ []) → saved_text saved ≡ text
unfolding saved_text
text_of_lines text saved is =
    sym (concat-map (saved_lines saved)) ∙ ap concat (lines_mapped saved ∙ sym is) ∙ concat-lines text

-- the text in parts
flat_more : {X : Type 0} (words : X → List (List ℕ)) (xs : List X) (rest : List (List (List ℕ)))
    → flat_map line_text (map words xs ++ rest) ≡ flat_map (λ x. line_text (words x)) xs ++ flat_map line_text rest
flat_more words [] rest = refl
flat_more words (x ∷ xs) rest = ap (λ t. line_text (words x) ++ t) (flat_more words xs rest) ∙ sym (append_assoc (line_text (words x)) _ _)

parts_joined : (a b c d e f g : List ℕ) → a ++ (b ++ (c ++ (d ++ (e ++ (f ++ g))))) ≡ (a ++ (b ++ (c ++ (d ++ (e ++ f))))) ++ g
parts_joined a b c d e f g = simp append_assoc

pub whole_text : (saved : Saved) → saved_text saved ≡ front_text saved ++ back_text saved
unfolding saved_text saved_lines front_text back_text
whole_text saved =
    ap (λ t. version_text ++ (line_text (moment_words saved.moment saved.next_id) ++ t))
    (flat_more partition_words saved.partitions _ ∙ ap (λ t. flat_map partition_line saved.partitions ++ t)
    (flat_more node_words saved.nodes _ ∙ ap (λ t. flat_map node_line saved.nodes ++ t)
    (flat_more dropped_words saved.dropped _ ∙ ap (λ t. flat_map dropped_line saved.dropped ++ t)
    (flat_more usage_words saved.usage _ ∙ ap (λ t. flat_map usage_line saved.usage ++ t)
    (flat_more reservation_words saved.reservations _ ∙ ap (λ t. flat_map reservation_line saved.reservations ++ t)
    (flat_more array_words saved.arrays _ ∙ ap (λ t. flat_map array_line saved.arrays ++ t)
    (flat_more job_words saved.jobs _ ∙ ap (λ t. flat_map job_line saved.jobs ++ t)
    (flat_more placed_words saved.plan (end_words ∷ []) ∙ ap (λ t. flat_map placed_line saved.plan ++ t) (append-nil end_text)))))))))
    ∙ parts_joined version_text (line_text (moment_words saved.moment saved.next_id)) (flat_map partition_line saved.partitions)
    (flat_map node_line saved.nodes) (flat_map dropped_line saved.dropped) (flat_map usage_line saved.usage) (back_text saved)
