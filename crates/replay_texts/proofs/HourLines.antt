-- The lines of hours, written one after the other: what the rest gives behind what was written.
use Rattle.std.proofs.Common.{◌≡◌, ℕ, suc, ◌+◌, ◌<◌, ◌≤◌, List, [], ◌∷◌, ◌++◌, length, drop, get_or, ap, ◌∙◌, sym, append_assoc, arith}
use Rattle.std.proofs.Math.Seq.{drop-cons}
use Rattle.std.proofs.lemmas.List.{append-nil, drop_all}
use Rattle.replay_texts.specs.Summaries.{hour_line, hour_lines, hour_start}

-- the lines of the hours from one on, behind a text
unfoldable pub lines_behind : List ℕ → ℕ → ℕ → ℕ → List ℕ → List ℕ
lines_behind text capacity first hour hours = text ++ hour_lines capacity first hour hours

lines_behind-more : (text : List ℕ) (capacity first hour used : ℕ) (others : List ℕ)
    → lines_behind text capacity first hour (used ∷ others)
    ≡ lines_behind (text ++ hour_line capacity hour (hour_start first hour) used) capacity first (hour + 1) others
unfolding lines_behind hour_lines
lines_behind-more text capacity first hour used others =
    sym (append_assoc text (hour_line capacity hour (hour_start first hour) used) (hour_lines capacity first (hour + 1) others))

lines_behind-end : (text : List ℕ) (capacity first hour : ℕ) → lines_behind text capacity first hour [] ≡ text
unfolding lines_behind hour_lines
lines_behind-end text capacity first hour = append-nil text

first_left : (hours : List ℕ) (place : ℕ) → place < length hours → drop place hours ≡ get_or hours place 0 ∷ drop (place + 1) hours
first_left hours place within =
    let next : place + 1 ≡ suc place = omega arith in
    rw next (drop-cons hours place 0 within)

pub one_line : (capacity first : ℕ) (hours : List ℕ) (place start : ℕ) (before after whole : List ℕ)
    → place < length hours → start ≡ hour_start first place
    → after ≡ before ++ hour_line capacity place start (get_or hours place 0)
    → lines_behind before capacity first place (drop place hours) ≡ whole
    → lines_behind after capacity first (place + 1) (drop (place + 1) hours) ≡ whole
one_line capacity first hours place start before after whole within start_is one leads =
    let others = drop (place + 1) hours in
    ap (λ t. lines_behind t capacity first (place + 1) others) one
    ∙ ap (λ s. lines_behind (before ++ hour_line capacity place s (get_or hours place 0)) capacity first (place + 1) others) start_is
    ∙ sym (lines_behind-more before capacity first place (get_or hours place 0) others)
    ∙ ap (lines_behind before capacity first place) (sym (first_left hours place within)) ∙ leads

pub all_lines : (capacity first : ℕ) (hours : List ℕ) (place : ℕ) (text start : List ℕ) → length hours ≤ place
    → lines_behind text capacity first place (drop place hours) ≡ lines_behind start capacity first 0 hours
    → text ≡ start ++ hour_lines capacity first 0 hours
unfolding lines_behind
all_lines capacity first hours place text start all leads =
    sym (lines_behind-end text capacity first place)
    ∙ ap (lines_behind text capacity first place) (sym (drop_all place hours all)) ∙ leads
