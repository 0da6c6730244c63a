-- Where the first LF of a text stands.
use Rattle.std.proofs.Common.{◌≡◌, ◌≢◌, ℕ, ◌+◌, ◌-◌, ◌<◌, ◌≤◌, Option, Some, None, unwrap_or, List, ◌∷◌, ◌++◌, length, take, drop, take_at, get_or, All, true, false, arith, sym, ap, ◌∙◌, refl, inl, inr}
use Rattle.std.specs.List.{position_or_len}
use Rattle.memchr.specs.Find.{IsFirstByte, is_byte}
use Rattle.std.proofs.lemmas.Bool.{cases_lt, eqb-true, eqb-false, false_from_ne_true}
use Rattle.std.proofs.lemmas.Bool.Decides.{eqb_tells}
use Rattle.std.proofs.lemmas.List.{take-append-drop, take-append-le, get_or-take, get_or_append_left, get_or_at, length-append, length-take, length-drop, get_or-drop, drop_at}
use Rattle.std.proofs.lemmas.List.Folds.{prefix_len-append}
use Rattle.std.proofs.lemmas.List.Sums.{position_or_len_is, fails_before_first, passes_at_first, split_at_first, prefix_len-le-length}
use Rattle.block_frame.specs.LineFeeds.{is_line_feed}

-- no LF is among the bytes
abbrev pub IsOneLine : List ℕ → Type 0
IsOneLine = All (λ byte. byte ≢ 10)

-- the length of the first line of a text
abbrev pub line_len : List ℕ → ℕ
line_len = position_or_len is_line_feed

pub line_fits : (text : List ℕ) → line_len text ≤ length text
line_fits text = prefix_len-le-length _ text

-- the first LF stands no earlier where more follows
pub line_grows : (text more : List ℕ) → line_len text ≤ line_len (text ++ more)
line_grows text more =
    elim (eqb_tells (line_len text) (length text)) [
      | inl e ↦ rw (prefix_len-append _ text more, e.0) (omega arith)
      | inr e ↦ rw (prefix_len-append _ text more, e.0) (omega arith)
    ]

pub is_other : (byte : ℕ) → byte ≢ 10 → is_line_feed byte ≡ false
is_other byte apart = elim (eqb_tells byte 10) [ inl e ↦ absurd (apart e.1) | inr e ↦ e.0 ]

-- a line that is ended, and what follows
pub line_len-line : (line more : List ℕ) → IsOneLine line → line_len (line ++ 10 ∷ more) ≡ length line
line_len-line line more one =
    position_or_len_is is_line_feed (line ++ 10 ∷ more) (length line) 0
    (simp length-append (omega arith))
    (λ k l. rw get_or_append_left (is_other _ (one k 0 l)))
    (λ l. ap is_line_feed (get_or_at line 10 more 0 (length line) refl))

-- a line that is not ended
pub line_len-open : (line : List ℕ) → IsOneLine line → line_len line ≡ length line
line_len-open line one =
    position_or_len_is is_line_feed line (length line) 0 (omega arith) (λ k l. is_other _ (one k 0 l)) (λ l. absurd (omega arith))

-- the first line has no LF
pub first_line : (text : List ℕ) → IsOneLine (take (line_len text) text)
first_line text k d l e =
    let before : k < line_len text = omega (arith, length-take (line_len text) text) in
    eqb-false _ 10 (fails_before_first is_line_feed text k d before) (sym (get_or-take (line_len text) text k d before) ∙ e)

-- the first line that is ended, its LF, and what follows
pub ended_line : (text : List ℕ) → line_len text < length text → text ≡ take (line_len text) text ++ 10 ∷ drop (line_len text + 1) text
ended_line text l =
    split_at_first is_line_feed text 0 l
    ∙ ap (λ byte. take (line_len text) text ++ byte ∷ drop (line_len text + 1) text) (eqb-true _ 10 (passes_at_first is_line_feed text 0 l))

-- no LF among the bytes that were searched, and none among the next n
none_so_far : (text : List ℕ) (searched n : ℕ) → searched ≤ line_len text → ((k : ℕ) → 0 ≤ k → k < n → is_line_feed (get_or (drop searched text) k 0) ≡ true → ⊥)
    → (k : ℕ) → k < searched + n → is_line_feed (get_or text k 0) ≡ false
none_so_far text searched n s none k l =
    elim (cases_lt k searched) [
      | inl before ↦ fails_before_first is_line_feed text k 0 (omega arith)
      | inr after ↦
          let at : get_or (drop searched text) (k - searched) 0 ≡ get_or text k 0 =
          get_or-drop searched text (k - searched) 0 ∙ ap (λ i. get_or text i 0) (omega arith) in
          false_from_ne_true _ (λ e. none (k - searched) (omega arith) (omega arith) (ap is_line_feed at ∙ e))
    ]

-- the first line of a text, from what a search past its searched bytes finds
pub line_found : (text : List ℕ) (searched : ℕ) (found : Option ℕ) → searched ≤ line_len text → IsFirstByte (is_byte 10) (drop searched text) found
    → searched + unwrap_or found (length (drop searched text)) ≡ line_len text
line_found text searched None s none =
    let within = line_fits text in
    let rest : searched + length (drop searched text) ≡ length text = simp length-drop (omega arith) in
    sym (position_or_len_is is_line_feed text (searched + length (drop searched text)) 0
    (omega arith)
    (none_so_far text searched (length (drop searched text)) s none)
    (λ l. absurd (omega arith)))
line_found text searched (Some n) s (before, at) =
    let within = line_fits text in
    let high : n < length (drop searched text) = before.high in
    let rest : length (drop searched text) ≡ length text - searched = length-drop searched text in
    sym (position_or_len_is is_line_feed text (searched + n) 0
    (omega arith)
    (none_so_far text searched n s before.before)
    (λ l. sym (ap is_line_feed (get_or-drop searched text n 0)) ∙ at))

-- of two ways to cut a text, the shorter front is the front of the longer
pub front_of : (us vs xs ys : List ℕ) → us ++ vs ≡ xs ++ ys → length us ≤ length xs → xs ≡ us ++ drop (length us) xs
front_of us vs xs ys e l =
    let front : us ≡ take (length us) xs = sym (take_at us vs (length us) refl) ∙ ap (take (length us)) e ∙ take-append-le (length us) xs ys l in
    sym (take-append-drop (length us) xs) ∙ ap (λ t. t ++ drop (length us) xs) (sym front)

-- a first line that is ended stays, whatever follows
pub line_stays : (text more : List ℕ) → line_len text < length text → line_len (text ++ more) ≡ line_len text
line_stays text more ended =
    elim (eqb_tells (line_len text) (length text)) [
      | inl e ↦ absurd (omega arith)
      | inr e ↦ rw (prefix_len-append _ text more, e.0) refl
    ]

-- two lines that are ended are one where they begin one text
pub same_lines : (a b x y : List ℕ) → IsOneLine a → IsOneLine b → a ++ 10 ∷ x ≡ b ++ 10 ∷ y → (a ≡ b) × (x ≡ y)
same_lines a b x y one other e =
    let len : length a ≡ length b = sym (line_len-line a x one) ∙ ap line_len e ∙ line_len-line b y other in
    let same : a ≡ b = sym (take_at a (10 ∷ x) (length a) refl) ∙ ap (take (length a)) e ∙ take_at b (10 ∷ y) (length a) (sym len) in
    let rests : 10 ∷ x ≡ 10 ∷ y = sym (drop_at a (10 ∷ x) (length a) refl) ∙ ap (drop (length a)) e ∙ drop_at b (10 ∷ y) (length a) (sym len) in
    (same, cc)
