-- A line read from the left gives the words that its definition gives from the right.
use Rattle.std.proofs.Common.{ℕ, zero, suc, not, Option, Some, None, ◌&&◌, ◌||◌, ◌==◌, if◌then◌else◌, ◌≡◌, ◌+◌, ◌<◌, ◌≤◌, Bool, true, false, List, [], ◌∷◌, ◌++◌, ◌≢◌, length, get_or, take, drop, map, sym, refl, ap, ◌∙◌, arith}
use Rattle.std.specs.List.{list_all, position}
use Rattle.std.proofs.lemmas.List.{append-nil, append_assoc, at_drop_more, at_drop_all, drop-map, map-append, take_all, take_more}
use Rattle.std.proofs.lemmas.List.Folds.{list_all-append}
use Rattle.std.proofs.lemmas.Bool.Decides.{nat_tests}
use Rattle.line_words.specs.Words.{first_bad, first_bad_word, open_place, words_in, earlier, is_word_byte, are_words, is_blank, ends_word, begins_comment, before_comment_from, mode_after, written, written_outside, prepend, words_from}
use Rattle.line_words.proofs.Positions.{list_all-from_position, position-map}
use Rattle.line_words.specs.declared.words.Mode.{Mode}
use Rattle.line_words.specs.declared.words.Mode.TheVariants.{Between, Plain, Escaped, Single, Double, DoubleEscaped}

pub prepend-prepend : (w bytes : List ℕ) (ws : List (List ℕ)) → prepend w (prepend bytes ws) ≡ prepend (w ++ bytes) ws
prepend-prepend w bytes [] = refl
prepend-prepend w bytes (x ∷ ws) = ap (λ (y : List ℕ). y ∷ ws) (sym (append_assoc w bytes x))

pub prepend-nil : (ws : List (List ℕ)) → prepend [] ws ≡ ws
prepend-nil [] = refl
prepend-nil (x ∷ ws) = refl

-- a byte that ends a word
pub words_from-end : (w : List ℕ) (mode : Mode) (b : ℕ) (text : List ℕ) → ends_word mode b ≡ true → prepend w (words_from mode (b ∷ text)) ≡ w ∷ words_from (mode_after mode b) text
words_from-end w Plain b text e = rw e (rw append-nil refl)
words_from-end w Between b text e = cc
words_from-end w Escaped b text e = cc
words_from-end w Single b text e = cc
words_from-end w Double b text e = cc
words_from-end w DoubleEscaped b text e = cc

-- a byte that doesn't
pub words_from-more : (w : List ℕ) (mode : Mode) (b : ℕ) (text : List ℕ) → ends_word mode b ≡ false → prepend w (words_from mode (b ∷ text)) ≡ prepend (w ++ written mode b) (words_from (mode_after mode b) text)
words_from-more w Between b text e = prepend-prepend w _ _
words_from-more w Plain b text e = rw e (prepend-prepend w _ _)
words_from-more w Escaped b text e = prepend-prepend w _ _
words_from-more w Single b text e = prepend-prepend w _ _
words_from-more w Double b text e = prepend-prepend w _ _
words_from-more w DoubleEscaped b text e = prepend-prepend w _ _

-- one byte more of a line
pub split-end : (ws : List (List ℕ)) (w : List ℕ) (mode : Mode) (line : List ℕ) (i : ℕ) → i < length line → ends_word mode (get_or line i 0) ≡ true → ws ++ prepend w (words_from mode (drop i line)) ≡ (ws ++ w ∷ []) ++ prepend [] (words_from (mode_after mode (get_or line i 0)) (drop (i + 1) line))
split-end ws w mode line i h t =
    let at : prepend w (words_from mode (drop i line)) ≡ prepend w (words_from mode (get_or line i 0 ∷ drop (i + 1) line)) = at_drop_more (λ (u : List ℕ). prepend w (words_from mode u)) line i 0 h in
    let rest : List (List ℕ) = words_from (mode_after mode (get_or line i 0)) (drop (i + 1) line) in
    ap (λ (u : List (List ℕ)). ws ++ u) (at ∙ words_from-end w mode (get_or line i 0) (drop (i + 1) line) t) ∙ (sym (append_assoc ws (w ∷ []) rest) ∙ ap (λ (u : List (List ℕ)). (ws ++ w ∷ []) ++ u) (sym (prepend-nil rest)))

pub split-more : (ws : List (List ℕ)) (w : List ℕ) (mode : Mode) (line : List ℕ) (i : ℕ) → i < length line → ends_word mode (get_or line i 0) ≡ false → ws ++ prepend w (words_from mode (drop i line)) ≡ ws ++ prepend (w ++ written mode (get_or line i 0)) (words_from (mode_after mode (get_or line i 0)) (drop (i + 1) line))
split-more ws w mode line i h t =
    let at : prepend w (words_from mode (drop i line)) ≡ prepend w (words_from mode (get_or line i 0 ∷ drop (i + 1) line)) = at_drop_more (λ (u : List ℕ). prepend w (words_from mode u)) line i 0 h in
    ap (λ (u : List (List ℕ)). ws ++ u) (at ∙ words_from-more w mode (get_or line i 0) (drop (i + 1) line) t)

-- at the end of a line
pub split-between : (ws : List (List ℕ)) (w line : List ℕ) (i : ℕ) → length line ≤ i → ws ++ prepend w (words_from Between (drop i line)) ≡ ws
split-between ws w line i h = ap (λ (u : List (List ℕ)). ws ++ u) (at_drop_all (λ (u : List ℕ). prepend w (words_from Between u)) line i h) ∙ append-nil ws

pub split-within : (ws : List (List ℕ)) (w : List ℕ) (mode : Mode) (line : List ℕ) (i : ℕ) → mode ≢ Between → length line ≤ i → ws ++ prepend w (words_from mode (drop i line)) ≡ ws ++ w ∷ []
split-within ws w mode line i m h = ap (λ (u : List (List ℕ)). ws ++ u) (at_drop_all (λ (u : List ℕ). prepend w (words_from mode u)) line i h ∙ within mode w m) where
  within : (mode : Mode) (w : List ℕ) → mode ≢ Between → prepend w (words_from mode []) ≡ w ∷ []
  within Between w m = absurd (m refl)
  within Plain w m = ap (λ (u : List ℕ). u ∷ []) (append-nil w)
  within Escaped w m = ap (λ (u : List ℕ). u ∷ []) (append-nil w)
  within Single w m = ap (λ (u : List ℕ). u ∷ []) (append-nil w)
  within Double w m = ap (λ (u : List ℕ). u ∷ []) (append-nil w)
  within DoubleEscaped w m = ap (λ (u : List ℕ). u ∷ []) (append-nil w)

-- one byte more of a line before its comment
pub comment-more : (mode : Mode) (line : List ℕ) (i : ℕ) → i < length line → begins_comment mode (get_or line i 0) ≡ false → take i line ++ before_comment_from mode (drop i line) ≡ take (i + 1) line ++ before_comment_from (mode_after mode (get_or line i 0)) (drop (i + 1) line)
comment-more mode line i h t =
    let b : ℕ = get_or line i 0 in
    let rest : List ℕ = before_comment_from (mode_after mode b) (drop (i + 1) line) in
    let at : before_comment_from mode (drop i line) ≡ before_comment_from mode (b ∷ drop (i + 1) line) = at_drop_more (λ (u : List ℕ). before_comment_from mode u) line i 0 h in
    let go : before_comment_from mode (b ∷ drop (i + 1) line) ≡ b ∷ rest = rw t refl in
    let front : take (i + 1) line ≡ take i line ++ b ∷ [] = take_more line i 0 h in
    ap (λ (u : List ℕ). take i line ++ u) (at ∙ go) ∙ (sym (append_assoc (take i line) (b ∷ []) rest) ∙ ap (λ (u : List ℕ). u ++ rest) (sym front))

-- where the comment begins
pub comment-here : (mode : Mode) (line : List ℕ) (i : ℕ) → i < length line → begins_comment mode (get_or line i 0) ≡ true → take i line ++ before_comment_from mode (drop i line) ≡ take i line
comment-here mode line i h t =
    let at : before_comment_from mode (drop i line) ≡ before_comment_from mode (get_or line i 0 ∷ drop (i + 1) line) = at_drop_more (λ (u : List ℕ). before_comment_from mode u) line i 0 h in
    let go : before_comment_from mode (get_or line i 0 ∷ drop (i + 1) line) ≡ [] = rw t refl in
    ap (λ (u : List ℕ). take i line ++ u) (at ∙ go) ∙ append-nil (take i line)

pub comment-none : (mode : Mode) (line : List ℕ) (i : ℕ) → length line ≤ i → take i line ++ before_comment_from mode (drop i line) ≡ line
comment-none mode line i h = ap (λ (u : List ℕ). take i line ++ u) (at_drop_all (λ (u : List ℕ). before_comment_from mode u) line i h) ∙ (append-nil (take i line) ∙ take_all i line h)

-- the steps of a line that is read up to its comment
pub ruleset commenting = (comment-more, comment-here, comment-none)

prepend-good : (bytes : List ℕ) (ws : List (List ℕ)) → list_all is_word_byte bytes ≡ true → are_words ws ≡ true → are_words (prepend bytes ws) ≡ true
prepend-good bytes [] h k = refl
prepend-good bytes (w ∷ ws) h k =
    let all : list_all is_word_byte (bytes ++ w) ≡ (list_all is_word_byte bytes && list_all is_word_byte w) = list_all-append is_word_byte bytes w in
    grind (arith, nat_tests)

outside-good : (b : ℕ) → is_word_byte b ≡ true → list_all is_word_byte (written_outside b) ≡ true
outside-good b h = by_blank (is_blank b || (b == 39 || b == 34 || b == 92)) where
  by_blank : (t : Bool) → list_all is_word_byte (if t then [] else b ∷ []) ≡ true
  by_blank true = refl
  by_blank false = rw h refl

written-good : (mode : Mode) (b : ℕ) → is_word_byte b ≡ true → list_all is_word_byte (written mode b) ≡ true
written-good Between b h = outside-good b h
written-good Plain b h = outside-good b h
written-good Escaped b h = rw h refl
written-good Single b h = by_quote (b == 39) where
  by_quote : (t : Bool) → list_all is_word_byte (if t then [] else b ∷ []) ≡ true
  by_quote true = refl
  by_quote false = rw h refl
written-good Double b h = by_quote (b == 34 || b == 92) where
  by_quote : (t : Bool) → list_all is_word_byte (if t then [] else b ∷ []) ≡ true
  by_quote true = refl
  by_quote false = rw h refl
written-good DoubleEscaped b h = by_quote (b == 34 || b == 92) where
  by_quote : (t : Bool) → list_all is_word_byte (if t then b ∷ [] else 92 ∷ b ∷ []) ≡ true
  by_quote true = rw h refl
  by_quote false = rw h refl

pub both-left : (a b : Bool) → (a && b) ≡ true → a ≡ true
both-left true b h = refl
both-left false b h = h

pub both-right : (a b : Bool) → (a && b) ≡ true → b ≡ true
both-right true b h = h
both-right false b h = cc

words_from-good-step : (b : ℕ) (text : List ℕ) → is_word_byte b ≡ true → ((mode : Mode) → are_words (words_from mode text) ≡ true) → (mode : Mode) → are_words (words_from mode (b ∷ text)) ≡ true
words_from-good-step b text here rest mode = by_mode mode where
  more : (mode : Mode) → are_words (prepend (written mode b) (words_from (mode_after mode b) text)) ≡ true
  more mode = prepend-good (written mode b) (words_from (mode_after mode b) text) (written-good mode b here) (rest (mode_after mode b))

  by_blank : (t : Bool) → are_words (if t then [] ∷ words_from Between text else prepend (written Plain b) (words_from (mode_after Plain b) text)) ≡ true
  by_blank true = rest Between
  by_blank false = more Plain

  by_mode : (mode : Mode) → are_words (words_from mode (b ∷ text)) ≡ true
  by_mode Between = more Between
  by_mode Plain = by_blank (is_blank b)
  by_mode Escaped = more Escaped
  by_mode Single = more Single
  by_mode Double = more Double
  by_mode DoubleEscaped = more DoubleEscaped

-- each word has word bytes where the line has
pub words_from-good : (text : List ℕ) (mode : Mode) → list_all is_word_byte text ≡ true → are_words (words_from mode text) ≡ true
words_from-good [] Between h = refl
words_from-good [] Plain h = refl
words_from-good [] Escaped h = refl
words_from-good [] Single h = refl
words_from-good [] Double h = refl
words_from-good [] DoubleEscaped h = refl
words_from-good (b ∷ text) mode h =
    words_from-good-step b text (both-left (is_word_byte b) (list_all is_word_byte text) h) (λ m. words_from-good text m (both-right (is_word_byte b) (list_all is_word_byte text) h)) mode

earlier-None : (a b : Option ℕ) → earlier a b ≡ None → a ≡ None
earlier-None None b h = refl
earlier-None (Some a) None h = cc
earlier-None (Some a) (Some b) h = cc

-- a line that has no bad place gives words
pub words_in_good : (line : List ℕ) → first_bad line ≡ None → are_words (words_in line) ≡ true
unfolding first_bad words_in
words_in_good line h =
    words_from-good line Between (list_all-from_position is_word_byte line (earlier-None (position (λ b. not (is_word_byte b)) line) (open_place line) h))

-- the steps of a line that is read from the left
pub ruleset splitting = (split-end, split-more, split-between, split-within, map-append)

pub are_words-drop : {X : Type 0} (f : X → List ℕ) (n : ℕ) (xs : List X) → are_words (map f xs) ≡ true → are_words (map f (drop n xs)) ≡ true
are_words-drop f zero xs h = h
are_words-drop f (suc n) [] h = h
are_words-drop f (suc n) (x ∷ xs) h = are_words-drop f n xs (both-right (list_all is_word_byte (f x)) (are_words (map f xs)) h)

-- what is left of a list of words
pub ruleset dropping = (drop-map, are_words-drop)

-- a list in which no word is bad
pub first_bad_word-None : (words : List (List ℕ)) → first_bad_word words ≡ None → are_words words ≡ true
unfolding first_bad_word
first_bad_word-None words h = list_all-from_position (list_all is_word_byte) words h

pub first_bad_word-map : {X : Type 0} (f : X → List ℕ) (xs : List X) → first_bad_word (map f xs) ≡ position (λ x. not (list_all is_word_byte (f x))) xs
unfolding first_bad_word
first_bad_word-map f xs = position-map (λ word. not (list_all is_word_byte word)) f xs

pub ruleset bad_words = (first_bad_word-None, first_bad_word-map)
