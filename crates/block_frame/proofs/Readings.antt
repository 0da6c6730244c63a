-- How attachments are read: what is spelled is read, and what is read is spelled so.
use Rattle.std.proofs.Common.{◌≡◌, ◌==◌, ℕ, ◌+◌, ◌-◌, ◌*◌, ◌<◌, ◌≤◌, List, [], ◌∷◌, ◌++◌, length, get_or, slice_index, Bool, true, false, leb, arith, sym, ap, ◌∙◌, subst, refl, inl, inr, append_assoc}
use Rattle.std.proofs.lemmas.Bool.{eqb-true}
use Rattle.std.proofs.lemmas.Bool.Decides.{eqb_tells, leb_tells, nat_tests}
use Rattle.std.proofs.lemmas.List.{append-nil, length-append}
use Rattle.block_frame.specs.Attachments.{dotted, Place, LineStart, FirstDot, InLine, Reading, Ended, Unended, Off, behind, place_of, reading_at}
use Rattle.block_frame.specs.Looking.{owed, has_room, undotted}

pub behind-nil : (r : Reading) → behind [] r ≡ r
behind-nil (Ended bytes) = refl
behind-nil (Unended at bytes) = refl
behind-nil Off = refl

pub behind-behind : (xs ys : List ℕ) (r : Reading) → behind xs (behind ys r) ≡ behind (xs ++ ys) r
behind-behind xs ys (Ended bytes) = ap Ended (sym (append_assoc xs ys bytes))
behind-behind xs ys (Unended at bytes) = ap (Unended at) (sym (append_assoc xs ys bytes))
behind-behind xs ys Off = refl

-- what was read, where more follows
abbrev pub goes_on : Reading → List ℕ → Reading
goes_on (Ended bytes) more = Ended bytes
goes_on (Unended at bytes) more = behind bytes (reading_at at more)
goes_on Off more = Off

goes_on-behind : (front : List ℕ) (r : Reading) (more : List ℕ) → goes_on (behind front r) more ≡ behind front (goes_on r more)
goes_on-behind front (Ended bytes) more = refl
goes_on-behind front (Unended at bytes) more = sym (behind-behind front bytes (reading_at at more))
goes_on-behind front Off more = refl

pub reading_at-append : (at : Place) (text more : List ℕ) → reading_at at (text ++ more) ≡ goes_on (reading_at at text) more
unfolding reading_at
reading_at-append at [] more = sym (behind-nil (reading_at at more))
reading_at-append LineStart (byte ∷ bytes) more =
    elim (eqb_tells byte 46) [
      | inl e ↦ rw e.0 (reading_at-append FirstDot bytes more)
      | inr e ↦
          rw e.0 (ap (behind (byte ∷ [])) (reading_at-append (place_of (byte == 10)) bytes more)
          ∙ sym (goes_on-behind (byte ∷ []) (reading_at (place_of (byte == 10)) bytes) more))
    ]
reading_at-append FirstDot (byte ∷ bytes) more =
    elim (eqb_tells byte 10) [
      | inl e ↦ rw e.0 refl
      | inr e ↦ elim (eqb_tells byte 46) [
        | inl d ↦
            rw (e.0, d.0) (ap (behind (byte ∷ [])) (reading_at-append InLine bytes more)
            ∙ sym (goes_on-behind (byte ∷ []) (reading_at InLine bytes) more))
        | inr d ↦ rw (e.0, d.0) refl
      ]
    ]
reading_at-append InLine (byte ∷ bytes) more =
    ap (behind (byte ∷ [])) (reading_at-append (place_of (byte == 10)) bytes more)
    ∙ sym (goes_on-behind (byte ∷ []) (reading_at (place_of (byte == 10)) bytes) more)

-- whether bytes end where a line begins, if they begin one or not
abbrev pub ends : Bool → List ℕ → Bool
ends begins [] = begins
ends begins (byte ∷ bytes) = ends (byte == 10) bytes

ends-append : (begins : Bool) (xs ys : List ℕ) → ends begins (xs ++ ys) ≡ ends (ends begins xs) ys
ends-append begins [] ys = refl
ends-append begins (x ∷ xs) ys = ends-append (x == 10) xs ys

dotted-append : (begins : Bool) (xs ys : List ℕ) → dotted begins (xs ++ ys) ≡ dotted begins xs ++ dotted (ends begins xs) ys
dotted-append begins [] ys = refl
dotted-append true (x ∷ xs) ys =
    elim (eqb_tells x 46) [
      | inl e ↦ rw e.0 (ap (λ t. 46 ∷ x ∷ t) (dotted-append (x == 10) xs ys))
      | inr e ↦ rw e.0 (ap (λ t. x ∷ t) (dotted-append (x == 10) xs ys))
    ]
dotted-append false (x ∷ xs) ys = ap (λ t. x ∷ t) (dotted-append (x == 10) xs ys)

-- what is spelled is read
reading_at-dotted : (begins : Bool) (bytes : List ℕ) → reading_at (place_of begins) (dotted begins bytes) ≡ Unended (place_of (ends begins bytes)) bytes
unfolding reading_at
reading_at-dotted true [] = refl
reading_at-dotted false [] = refl
reading_at-dotted true (byte ∷ bytes) =
    elim (eqb_tells byte 46) [
      | inl e ↦ rw e.1 (ap (behind (46 ∷ [])) (reading_at-dotted false bytes))
      | inr e ↦ rw e.0 (rw e.0 (ap (behind (byte ∷ [])) (reading_at-dotted (byte == 10) bytes)))
    ]
reading_at-dotted false (byte ∷ bytes) = ap (behind (byte ∷ [])) (reading_at-dotted (byte == 10) bytes)

pub reading_at-attachment : (bytes more : List ℕ) → ends true bytes ≡ true → reading_at LineStart (dotted true bytes ++ 46 ∷ 10 ∷ more) ≡ Ended bytes
unfolding reading_at
reading_at-attachment bytes more e =
    reading_at-append LineStart (dotted true bytes) (46 ∷ 10 ∷ more)
    ∙ ap (λ r. goes_on r (46 ∷ 10 ∷ more)) (reading_at-dotted true bytes)
    ∙ rw e (ap Ended (append-nil bytes))

-- the dot that was read, and isn't a byte yet
abbrev pub dot_at : Place → List ℕ
dot_at LineStart = []
dot_at FirstDot = 46 ∷ []
dot_at InLine = []

abbrev pub begins_at : Place → Bool
begins_at LineStart = true
begins_at FirstDot = true
begins_at InLine = false

-- a text from a place on is so spelled: these bytes, and what follows them
record Spelled (at : Place) (text bytes tail : List ℕ) (is_end : Bool) : Type 0 where
  is_text : dot_at at ++ text ≡ dotted (begins_at at) bytes ++ tail
  is_ended : ends (begins_at at) bytes ≡ is_end

abbrev Spells : Place → List ℕ → Reading → Type 0
Spells at text (Ended bytes) = (rest : List ℕ) × Spelled at text bytes (46 ∷ 10 ∷ rest) true
Spells at text (Unended to bytes) = Spelled at text bytes (dot_at to) (begins_at to)
Spells at text Off = Unit {0}

plainly : (c : Bool) (text bytes tail : List ℕ) (is_end : Bool) → Spelled (place_of c) text bytes tail is_end → (text ≡ dotted c bytes ++ tail) × (ends c bytes ≡ is_end)
plainly true text bytes tail is_end s = (s.is_text, s.is_ended)
plainly false text bytes tail is_end s = (s.is_text, s.is_ended)

-- one byte more, which isn't a dot that begins a line
line_step : (byte : ℕ) (text bytes tail : List ℕ) (is_end : Bool) → (byte == 46) ≡ false → Spelled (place_of (byte == 10)) text bytes tail is_end → Spelled LineStart (byte ∷ text) (byte ∷ bytes) tail is_end
line_step byte text bytes tail is_end e s =
    let (is_text, is_ended) = plainly (byte == 10) text bytes tail is_end s in
    record { is_text = rw e (ap (λ t. byte ∷ t) is_text); is_ended = is_ended }

within_step : (byte : ℕ) (text bytes tail : List ℕ) (is_end : Bool) → Spelled (place_of (byte == 10)) text bytes tail is_end → Spelled InLine (byte ∷ text) (byte ∷ bytes) tail is_end
within_step byte text bytes tail is_end s =
    let (is_text, is_ended) = plainly (byte == 10) text bytes tail is_end s in
    record { is_text = ap (λ t. byte ∷ t) is_text; is_ended = is_ended }

dot_step : (text bytes tail : List ℕ) (is_end : Bool) → Spelled InLine text bytes tail is_end → Spelled FirstDot (46 ∷ text) (46 ∷ bytes) tail is_end
dot_step text bytes tail is_end s = record { is_text = ap (λ t. 46 ∷ 46 ∷ t) s.is_text; is_ended = s.is_ended }

line_steps : (byte : ℕ) (text : List ℕ) (r : Reading) → (byte == 46) ≡ false → Spells (place_of (byte == 10)) text r → Spells LineStart (byte ∷ text) (behind (byte ∷ []) r)
line_steps byte text (Ended bytes) e s = (s.0, line_step byte text bytes _ true e s.1)
line_steps byte text (Unended to bytes) e s = line_step byte text bytes _ _ e s
line_steps byte text Off e s = tt

within_steps : (byte : ℕ) (text : List ℕ) (r : Reading) → Spells (place_of (byte == 10)) text r → Spells InLine (byte ∷ text) (behind (byte ∷ []) r)
within_steps byte text (Ended bytes) s = (s.0, within_step byte text bytes _ true s.1)
within_steps byte text (Unended to bytes) s = within_step byte text bytes _ _ s
within_steps byte text Off s = tt

dot_steps : (text : List ℕ) (r : Reading) → Spells InLine text r → Spells FirstDot (46 ∷ text) (behind (46 ∷ []) r)
dot_steps text (Ended bytes) s = (s.0, dot_step text bytes _ true s.1)
dot_steps text (Unended to bytes) s = dot_step text bytes _ _ s
dot_steps text Off s = tt

from_dot : (text bytes tail : List ℕ) (is_end : Bool) → Spelled FirstDot text bytes tail is_end → Spelled LineStart (46 ∷ text) bytes tail is_end
from_dot text bytes tail is_end s = record { is_text = s.is_text; is_ended = s.is_ended }

from_dots : (text : List ℕ) (r : Reading) → Spells FirstDot text r → Spells LineStart (46 ∷ text) r
from_dots text (Ended bytes) s = (s.0, from_dot text bytes _ true s.1)
from_dots text (Unended to bytes) s = from_dot text bytes _ _ s
from_dots text Off s = tt

nothing_spelled : (at : Place) → Spelled at [] [] (dot_at at) (begins_at at)
nothing_spelled at = record { is_text = append-nil (dot_at at); is_ended = refl }

-- what is read is spelled so
spells : (at : Place) (text : List ℕ) → Spells at text (reading_at at text)
unfolding reading_at
spells at [] = nothing_spelled at
spells LineStart (byte ∷ bytes) =
    elim (eqb_tells byte 46) [
      | inl e ↦ rw e.1 (from_dots bytes (reading_at FirstDot bytes) (spells FirstDot bytes))
      | inr e ↦ rw e.0 (line_steps byte bytes (reading_at (place_of (byte == 10)) bytes) e.0 (spells (place_of (byte == 10)) bytes))
    ]
spells FirstDot (byte ∷ bytes) =
    elim (eqb_tells byte 10) [
      | inl e ↦ rw e.1 (bytes, record { is_text = refl; is_ended = refl })
      | inr e ↦ elim (eqb_tells byte 46) [
        | inl d ↦ rw d.1 (dot_steps bytes (reading_at InLine bytes) (spells InLine bytes))
        | inr d ↦ rw (e.0, d.0) tt
      ]
    ]
spells InLine (byte ∷ bytes) = within_steps byte bytes (reading_at (place_of (byte == 10)) bytes) (spells (place_of (byte == 10)) bytes)

abbrev spells_as : (text : List ℕ) (r : Reading) → reading_at LineStart text ≡ r → Spells LineStart text r
spells_as text r e = subst (Spells LineStart text) e (spells LineStart text)

pub ended_is_spelled : (text bytes : List ℕ) → reading_at LineStart text ≡ Ended bytes → ((rest : List ℕ) × (text ≡ dotted true bytes ++ 46 ∷ 10 ∷ rest)) × (ends true bytes ≡ true)
ended_is_spelled text bytes e = let s = spells_as text (Ended bytes) e in ((s.0, s.1.is_text), s.1.is_ended)

pub unended_is_spelled : (text bytes : List ℕ) (at : Place) → reading_at LineStart text ≡ Unended at bytes → (text ≡ dotted true bytes ++ dot_at at) × (ends true bytes ≡ begins_at at)
unended_is_spelled text bytes at e = let s = spells_as text (Unended at bytes) e in (s.is_text, s.is_ended)

-- what ends an attachment from a place on, and the byte that this gains
abbrev pub ending : Place → List ℕ
ending LineStart = 46 ∷ 10 ∷ []
ending FirstDot = 10 ∷ []
ending InLine = 10 ∷ 46 ∷ 10 ∷ []

abbrev pub gained : Place → List ℕ
gained LineStart = []
gained FirstDot = []
gained InLine = 10 ∷ []

-- what can end makes an attachment
pub record Completes (text bytes : List ℕ) (at : Place) : Type 0 where
  pub cut : dotted true (bytes ++ gained at) ++ 46 ∷ 10 ∷ [] ≡ text ++ ending at
  pub ended : ends true (bytes ++ gained at) ≡ true
  pub len : length (bytes ++ gained at) ≡ length bytes + owed at

pub completes : (text bytes : List ℕ) (at : Place) → reading_at LineStart text ≡ Unended at bytes → Completes text bytes at
completes text bytes LineStart e =
    let (is_text, is_ended) = unended_is_spelled text bytes LineStart e in
    let same = append-nil bytes in record {
      cut = rw (same, is_text) (ap (λ t. t ++ 46 ∷ 10 ∷ []) (sym (append-nil (dotted true bytes))));
      ended = rw same is_ended;
      len = rw same (omega arith);
    }
completes text bytes FirstDot e =
    let (is_text, is_ended) = unended_is_spelled text bytes FirstDot e in
    let same = append-nil bytes in record {
      cut = rw (same, is_text) (sym (append_assoc (dotted true bytes) (46 ∷ []) (10 ∷ [])));
      ended = rw same is_ended;
      len = rw same (omega arith);
    }
completes text bytes InLine e =
    let (is_text, is_ended) = unended_is_spelled text bytes InLine e in
    let same : text ≡ dotted true bytes = is_text ∙ append-nil (dotted true bytes) in record {
      cut = ap (λ t. t ++ 46 ∷ 10 ∷ []) (dotted-append true bytes (10 ∷ [])) ∙ rw (is_ended, ← same) (append_assoc text (10 ∷ []) (46 ∷ 10 ∷ []));
      ended = ends-append true bytes (10 ∷ []);
      len = length-append bytes (10 ∷ []);
    }

-- room for what was read

le_past : (n a room : ℕ) → n ≤ room → leb (n + a) room ≡ leb a (room - n)
le_past n a room l = elim (leb_tells a (room - n)) [ inl e ↦ rw e.0 (grind (arith, nat_tests)) | inr e ↦ rw e.0 (grind (arith, nat_tests)) ]

pub has_room-behind : (room : ℕ) (front : List ℕ) (r : Reading) → length front ≤ room → has_room room (behind front r) ≡ has_room (room - length front) r
has_room-behind room front (Ended bytes) l = rw length-append (le_past (length front) (length bytes) room l)
has_room-behind room front (Unended at bytes) l =
    let len : length (front ++ bytes) + owed at ≡ length front + (length bytes + owed at) = simp length-append (omega arith) in
    rw len (le_past (length front) (length bytes + owed at) room l)
has_room-behind room front Off l = refl

pub too_long : (n room : ℕ) → room < n → leb n room ≡ false
too_long n room l = grind (arith, nat_tests)

pub no_room-behind : (room : ℕ) (front : List ℕ) (r : Reading) → room < length front → has_room room (behind front r) ≡ false
no_room-behind room front (Ended bytes) l = too_long _ room (simp length-append (omega arith))
no_room-behind room front (Unended at bytes) l = too_long _ room (simp length-append (omega arith))
no_room-behind room front Off l = refl

behind_ended : (front : List ℕ) (r : Reading) (bytes : List ℕ) → behind front r ≡ Ended bytes → (rest : List ℕ) × (r ≡ Ended rest) × (bytes ≡ front ++ rest)
behind_ended front (Ended own) bytes e = (own, refl, cc)
behind_ended front (Unended at own) bytes e = absurd (cc)
behind_ended front Off bytes e = absurd (cc)

owed_is_gained : (at : Place) (text bytes : List ℕ) → reading_at at text ≡ Ended bytes → owed at ≤ length bytes
unfolding reading_at
owed_is_gained LineStart text bytes e = omega arith
owed_is_gained FirstDot text bytes e = omega arith
owed_is_gained InLine [] bytes e = absurd (cc)
owed_is_gained InLine (byte ∷ text) bytes e =
    let (rest, own, is_more) = behind_ended (byte ∷ []) (reading_at (place_of (byte == 10)) text) bytes e in
    rw is_more (omega arith)

within_room : (n room : ℕ) → leb n room ≡ false → room < n
within_room n room e = grind (arith, nat_tests)

-- what has no room makes no attachment that has, whatever follows
pub no_room_stays : (room : ℕ) (r : Reading) (more bytes : List ℕ) → has_room room r ≡ false → goes_on r more ≡ Ended bytes → room < length bytes
no_room_stays room (Ended own) more bytes none e = let same : own ≡ bytes = cc in subst (λ b. room < length b) same (within_room _ room none)
no_room_stays room (Unended at own) more bytes none e =
    let (rest, read, is_more) = behind_ended own (reading_at at more) bytes e in
    let gains = owed_is_gained at more rest read in
    let over = within_room (length own + owed at) room none in
    rw (is_more, length-append) (omega arith)
no_room_stays room Off more bytes none e = absurd (cc)

-- an attachment's dots are half as many as its bytes at the most
abbrev unended : Bool → ℕ
unended true = 0
unended false = 1

length-dotted : (begins : Bool) (bytes : List ℕ) → ends begins bytes ≡ true → 2 * length (dotted begins bytes) + unended begins ≤ 3 * length bytes
length-dotted true [] e = omega arith
length-dotted false [] e = absurd (cc)
length-dotted true (byte ∷ bytes) e =
    elim (eqb_tells byte 46) [
      | inl d ↦ let ih = length-dotted false bytes (rw d.1 at e) in rw d.1 (omega arith)
      | inr d ↦ let ih = length-dotted (byte == 10) bytes e in rw d.0 (omega arith)
    ]
length-dotted false (byte ∷ bytes) e = let ih = length-dotted (byte == 10) bytes e in omega arith

pub length-dotted_lines : (bytes : List ℕ) → ends true bytes ≡ true → 2 * length (dotted true bytes) ≤ 3 * length bytes
length-dotted_lines bytes e = let bound = length-dotted true bytes e in omega arith

-- what is spelled is found again without its dots
undotted-dotted : (begins : Bool) (bytes : List ℕ) → undotted begins (dotted begins bytes) ≡ bytes
undotted-dotted begins [] = refl
undotted-dotted true (byte ∷ bytes) =
    elim (eqb_tells byte 46) [
      | inl d ↦ rw d.1 (ap (λ t. 46 ∷ t) (undotted-dotted false bytes))
      | inr d ↦ rw d.0 (rw d.0 (ap (λ t. byte ∷ t) (undotted-dotted (byte == 10) bytes)))
    ]
undotted-dotted false (byte ∷ bytes) = ap (λ t. byte ∷ t) (undotted-dotted (byte == 10) bytes)

pub undotted_lines : (text bytes : List ℕ) → reading_at LineStart text ≡ Unended LineStart bytes → (undotted true text ≡ bytes) × (ends true bytes ≡ true)
undotted_lines text bytes e =
    let (is_text, is_ended) = unended_is_spelled text bytes LineStart e in
    (ap (undotted true) (is_text ∙ append-nil (dotted true bytes)) ∙ undotted-dotted true bytes, is_ended)

-- bytes end where a line begins, if their last one is an LF
ends-last : (byte : ℕ) (bytes : List ℕ) (begins : Bool) → ends begins (byte ∷ bytes) ≡ (get_or (byte ∷ bytes) (length bytes) 0 == 10)
ends-last byte [] begins = refl
ends-last byte (next ∷ bytes) begins = ends-last next bytes (byte == 10)

pub ends_from_last : (bytes : List ℕ) → (0 < length bytes → slice_index bytes (length bytes - 1) ≡ 10) → ends true bytes ≡ true
ends_from_last [] last = refl
ends_from_last (byte ∷ bytes) last =
    let at : length (byte ∷ bytes) - 1 ≡ length bytes = omega arith in
    let is_feed : get_or (byte ∷ bytes) (length bytes) 0 ≡ 10 = subst (λ n. get_or (byte ∷ bytes) n 0 ≡ 10) at (last (omega arith)) in
    ends-last byte bytes true ∙ ap (λ b. b == 10) is_feed

pub last_from_ends : (bytes : List ℕ) → ends true bytes ≡ true → 0 < length bytes → slice_index bytes (length bytes - 1) ≡ 10
last_from_ends [] e some = absurd (omega arith)
last_from_ends (byte ∷ bytes) e some =
    let at : length bytes ≡ length (byte ∷ bytes) - 1 = omega arith in
    let is_feed : get_or (byte ∷ bytes) (length bytes) 0 ≡ 10 = eqb-true _ 10 (sym (ends-last byte bytes true) ∙ e) in
    subst (λ n. get_or (byte ∷ bytes) n 0 ≡ 10) at is_feed
