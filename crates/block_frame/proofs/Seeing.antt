-- What a line of an attachment is read as.
use Rattle.std.proofs.Common.{◌≡◌, ◌≢◌, ◌⊎◌, ◌==◌, ℕ, ◌+◌, ◌<◌, ◌≤◌, List, [], ◌∷◌, ◌++◌, length, take, drop, Bool, true, false, leb, ltb, arith, sym, ap, ◌∙◌, subst, refl, inl, inr, append_assoc}
use Rattle.std.proofs.lemmas.Bool.{cases_lt, lt-ltb, le-ltb, ltb-true, ltb-false}
use Rattle.std.proofs.lemmas.Bool.Decides.{eqb_tells, nat_tests}
use Rattle.std.proofs.lemmas.List.Elements.{All-head, All-tail}
use Rattle.std.proofs.lemmas.List.{append-nil, length-append, length-take-le, take_all, take_at, take-append-drop}
use Rattle.block_frame.specs.declared.lines.Kind.{Kind}
use Rattle.block_frame.specs.declared.lines.Kind.TheVariants as kind
use Rattle.block_frame.specs.Attachments.{LineStart, FirstDot, InLine, Unended, behind, reading_at}
use Rattle.block_frame.specs.Looking.{has_room, kind_of, sized, IsSeen}
use Rattle.block_frame.proofs.FirstLines.{IsOneLine, line_len, first_line, ended_line, is_other}
use Rattle.block_frame.proofs.Readings.{behind-behind, behind-nil, no_room-behind, too_long}

-- within a line each byte stands for itself
within_line : (line more : List ℕ) → IsOneLine line → reading_at InLine (line ++ more) ≡ behind line (reading_at InLine more)
unfolding reading_at
within_line [] more one = sym (behind-nil (reading_at InLine more))
within_line (byte ∷ line) more one =
    let other : (byte == 10) ≡ false = is_other byte (All-head (λ b. b ≢ 10) byte line one) in
    rw other (ap (behind (byte ∷ [])) (within_line line more (All-tail (λ b. b ≢ 10) byte line one))
    ∙ behind-behind (byte ∷ []) line (reading_at InLine more))

-- what a line of each kind looks like
HasShape : Kind → List ℕ → Type 0
HasShape kind.Plain line = (line ≡ []) ⊎ ((byte : ℕ) × (rest : List ℕ) × (line ≡ byte ∷ rest) × ((byte == 46) ≡ false))
HasShape kind.Dot line = line ≡ 46 ∷ []
HasShape kind.Dotted line = (rest : List ℕ) × (line ≡ 46 ∷ 46 ∷ rest)
HasShape kind.Off line = (byte : ℕ) × (rest : List ℕ) × (line ≡ 46 ∷ byte ∷ rest) × ((byte == 46) ≡ false) × (byte ≢ 46)

shape : (line : List ℕ) → HasShape (kind_of line) line
unfolding HasShape
shape [] = inl refl
shape (byte ∷ []) = elim (eqb_tells byte 46) [ inl d ↦ rw d.1 refl | inr d ↦ rw d.0 (inr (byte, [], refl, d.0)) ]
shape (byte ∷ next ∷ line) =
    elim (eqb_tells byte 46) [
      | inl d ↦ elim (eqb_tells next 46) [ inl n ↦ rw (d.1, n.1) (line, refl) | inr n ↦ rw (d.1, n.0) (next, line, refl, n.0, n.1) ]
      | inr d ↦ rw d.0 (inr (byte, next ∷ line, refl, d.0))
    ]

shape_of : (line : List ℕ) (k : Kind) → kind_of line ≡ k → HasShape k line
shape_of line k e = subst (λ k. HasShape k line) e (shape line)

-- a line that doesn't begin with a dot is read as within a line
like_within : (byte : ℕ) (more : List ℕ) → (byte == 46) ≡ false → reading_at LineStart (byte ∷ more) ≡ reading_at InLine (byte ∷ more)
unfolding reading_at
like_within byte more e = rw e refl

-- a line and what it stands for are read alike
pub record Starts (line own : List ℕ) : Type 0 where
  unended : 0 < length line → reading_at LineStart line ≡ reading_at InLine own
  ended : (more : List ℕ) → reading_at LineStart (line ++ 10 ∷ more) ≡ reading_at InLine (own ++ 10 ∷ more)
  one_line : IsOneLine own

pub plain_starts : (line : List ℕ) → kind_of line ≡ kind.Plain → IsOneLine line → Starts line line
unfolding HasShape
plain_starts line e one = record {
  unended = λ some. elim (shape_of line kind.Plain e) [
    | inl empty ↦ absurd (omega (arith, ap length empty))
    | inr first ↦ rw first.2 (like_within first.0 first.1 first.3)
  ];
  ended = λ more. elim (shape_of line kind.Plain e) [
    | inl empty ↦ rw empty (like_within 10 more refl)
    | inr first ↦ rw first.2 (like_within first.0 (first.1 ++ 10 ∷ more) first.3)
  ];
  one_line = one;
}

pub dotted_starts : (line : List ℕ) → kind_of line ≡ kind.Dotted → IsOneLine line → Starts line (drop 1 line) × (length line ≡ length (drop 1 line) + 1)
unfolding HasShape reading_at
dotted_starts line e one =
    let (rest, is_line) = shape_of line kind.Dotted e in
    let whole : IsOneLine (46 ∷ 46 ∷ rest) = subst IsOneLine is_line one in
    rw is_line (
      record { unended = λ some. refl; ended = λ more. refl; one_line = All-tail (λ b. b ≢ 10) 46 (46 ∷ rest) whole },
      omega arith,
    )

ended_reading : (line own more : List ℕ) → Starts line own → reading_at LineStart (line ++ 10 ∷ more) ≡ behind (own ++ 10 ∷ []) (reading_at LineStart more)
unfolding reading_at
ended_reading line own more starts =
    starts.ended more ∙ within_line own (10 ∷ more) starts.one_line ∙ behind-behind own (10 ∷ []) (reading_at LineStart more)

unended_reading : (line own : List ℕ) → Starts line own → 0 < length line → reading_at LineStart line ≡ Unended InLine own
unfolding reading_at
unended_reading line own starts some =
    starts.unended some ∙ ap (reading_at InLine) (sym (append-nil own)) ∙ within_line own [] starts.one_line ∙ ap (Unended InLine) (append-nil own)

pub fits_room : (n room : ℕ) → n ≤ room → leb n room ≡ true
fits_room n room l = grind (arith, nat_tests)

ended_line_seen : (text own : List ℕ) (size room : ℕ) → line_len text < length text → Starts (take (line_len text) text) own → length own + 1 ≡ size → IsSeen room text (sized (line_len text) true size room)
unfolding reading_at
ended_line_seen text own size room ended starts is_size =
    let len = line_len text in
    let line = take len text in
    let more = drop (len + 1) text in
    let cut = ended_line text ended in
    let own_size : length (own ++ 10 ∷ []) ≡ size = length-append own (10 ∷ []) ∙ is_size in
    elim (cases_lt room size) [
      | inl over ↦
          let none : has_room room (reading_at LineStart text) ≡ false =
          ap (λ t. has_room room (reading_at LineStart t)) cut
          ∙ ap (has_room room) (ended_reading line own more starts) ∙ no_room-behind room (own ++ 10 ∷ []) (reading_at LineStart more) (omega arith) in
          rw (lt-ltb room size over) (none, omega arith)
      | inr fits ↦
          let longer : text ≡ (line ++ 10 ∷ []) ++ more = cut ∙ sym (append_assoc line (10 ∷ []) more) in
          let line_size : length (line ++ 10 ∷ []) ≡ len + 1 = length-append line (10 ∷ []) ∙ ap (λ n. n + 1) (length-take-le len text (omega arith)) in
          let front : take (len + 1) text ≡ line ++ 10 ∷ [] = ap (take (len + 1)) longer ∙ take_at (line ++ 10 ∷ []) more (len + 1) line_size in
          let read : reading_at LineStart (take (len + 1) text) ≡ Unended LineStart (own ++ 10 ∷ []) =
          ap (reading_at LineStart) front ∙ ended_reading line own [] starts ∙ ap (Unended LineStart) (append-nil (own ++ 10 ∷ [])) in
          rw (le-ltb room size (omega arith)) (own ++ 10 ∷ [], read, own_size, omega arith, ended)
    ]

unended_line_seen : (text own : List ℕ) (size room : ℕ) → length text ≤ line_len text → 0 < length text → Starts (take (line_len text) text) own → length own + 1 ≡ size → IsSeen room text (sized (line_len text) false size room)
unended_line_seen text own size room whole some starts is_size =
    let all : take (line_len text) text ≡ text = take_all (line_len text) text whole in
    let read : reading_at LineStart text ≡ Unended InLine own = unended_reading text own (subst (λ t. Starts t own) all starts) some in
    elim (cases_lt room size) [
      | inl over ↦
          let none : has_room room (reading_at LineStart text) ≡ false = ap (has_room room) read ∙ too_long (length own + 1) room (omega arith) in
          rw (lt-ltb room size over) (none, omega arith)
      | inr fits ↦ rw (le-ltb room size (omega arith)) (InLine, own, read, fits_room (length own + 1) room (omega arith), omega arith)
    ]

-- a line that stands for something
pub line_seen : (text own : List ℕ) (len size room : ℕ) (is_ended : Bool) → len ≡ line_len text → is_ended ≡ ltb len (length text) → 0 < length text → Starts (take len text) own → length own + 1 ≡ size
    → IsSeen room text (sized len is_ended size room)
line_seen text own len size room true is_len ended some starts is_size =
    rw is_len (ended_line_seen text own size room (rw is_len at (ltb-true len (length text) (sym ended))) (rw is_len at starts) is_size)
line_seen text own len size room false is_len ended some starts is_size =
    rw is_len (unended_line_seen text own size room (rw is_len at (ltb-false len (length text) (sym ended))) some (rw is_len at starts) is_size)

-- a line that is off
pub off_seen : (text : List ℕ) (len room : ℕ) → len ≡ line_len text → kind_of (take len text) ≡ kind.Off → has_room room (reading_at LineStart text) ≡ false
unfolding HasShape reading_at
off_seen text len room is_len e =
    let (byte, rest, is_line, other, apart) = shape_of (take len text) kind.Off e in
    let one : IsOneLine (46 ∷ byte ∷ rest) = subst IsOneLine is_line (rw (← is_len) at (first_line text)) in
    let no_feed : (byte == 10) ≡ false = is_other byte (All-head (λ b. b ≢ 10) byte rest (All-tail (λ b. b ≢ 10) 46 (byte ∷ rest) one)) in
    let cut : text ≡ 46 ∷ byte ∷ (rest ++ drop len text) = sym (take-append-drop len text) ∙ ap (λ t. t ++ drop len text) is_line in
    ap (λ t. has_room room (reading_at LineStart t)) cut ∙ rw (no_feed, other) refl

-- a dot alone

pub dot_ended : (text : List ℕ) (len : ℕ) → len ≡ line_len text → kind_of (take len text) ≡ kind.Dot → len < length text → text ≡ 46 ∷ 10 ∷ drop 2 text
unfolding HasShape
dot_ended text len is_len e ended =
    let is_line : take (line_len text) text ≡ 46 ∷ [] = rw is_len at (shape_of (take len text) kind.Dot e) in
    let cut : text ≡ 46 ∷ 10 ∷ drop (line_len text + 1) text = ended_line text (omega arith) ∙ ap (λ t. t ++ 10 ∷ drop (line_len text + 1) text) is_line in
    cut ∙ ap (λ t. 46 ∷ 10 ∷ t) (sym (ap (drop 2) cut))

pub dot_unended : (text : List ℕ) (len : ℕ) → len ≡ line_len text → kind_of (take len text) ≡ kind.Dot → length text ≤ len → reading_at LineStart text ≡ Unended FirstDot []
unfolding HasShape reading_at
dot_unended text len is_len e whole =
    let is_text : text ≡ 46 ∷ [] = sym (take_all len text whole) ∙ shape_of (take len text) kind.Dot e in
    ap (reading_at LineStart) is_text
