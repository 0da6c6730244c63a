-- Each line at whose end nothing is open is the line of a sentence.
use Rattle.std.proofs.Common.{ℕ, ◌≡◌, ◌≢◌, ◌==◌, ◌||◌, not, Bool, true, false, if◌then◌else◌, None, List, [], ◌∷◌, ◌++◌, flat_map, refl, sym, ap, ◌∙◌, subst, eqb-true, append_assoc}
use Rattle.std.specs.List.{list_all}
use Rattle.line_words.specs.Words.{is_blank, mode_outside, may_end, open_place}
use Rattle.worked_rows.specs.Sentences.{Item, Itself, Marked, Both, Piece, Bare, Escaped, Single, Double, Word, Sentence, AreWords, IsSentence, is_marked, is_item, is_piece, item_written, piece_written, pieces_written, words_written, sentence_written}
use Rattle.worked_rows.proofs.Modes.{Mode, between, within, in_escape, in_single, in_double, in_double_escape, end_mode, ends, blank, bare}

-- what is left of a line: from between words on, blanks and words
record Tail (text : List ℕ) : Type 0 where
  blanks : List ℕ
  words : List Word
  are_blanks : list_all is_blank blanks ≡ true
  are_words : AreWords words
  is : blanks ++ words_written words ≡ text

-- from within a word on, the pieces that are left of it, and the blanks and words behind it
record Rest (text : List ℕ) : Type 0 where
  pieces : List Piece
  blanks : List ℕ
  words : List Word
  are_pieces : list_all is_piece pieces ≡ true
  are_blanks : list_all is_blank blanks ≡ true
  apart : words ≢ [] → blanks ≢ []
  are_words : AreWords words
  is : pieces_written pieces ++ (blanks ++ words_written words) ≡ text

-- from within a piece on, what is left of it and behind it
record EscapeRest (text : List ℕ) : Type 0 where
  byte : ℕ
  behind : List ℕ
  rest : Rest behind
  is : byte ∷ behind ≡ text

record SingleRest (text : List ℕ) : Type 0 where
  bytes : List ℕ
  behind : List ℕ
  are_bytes : list_all (λ b. not (b == 39)) bytes ≡ true
  rest : Rest behind
  is : bytes ++ 39 ∷ behind ≡ text

record DoubleRest (text : List ℕ) : Type 0 where
  items : List Item
  behind : List ℕ
  are_items : list_all is_item items ≡ true
  rest : Rest behind
  is : flat_map item_written items ++ 34 ∷ behind ≡ text

record MarkRest (text : List ℕ) : Type 0 where
  byte : ℕ
  behind : List ℕ
  rest : DoubleRest behind
  is : byte ∷ behind ≡ text

abbrev MayEnd : Mode → List ℕ → Type 0
MayEnd mode text = may_end (end_mode mode text) ≡ true

record Left (text : List ℕ) : Type 0 where
  between_words : MayEnd between text → Tail text
  within_word : MayEnd within text → Rest text
  behind_slash : MayEnd in_escape text → EscapeRest text
  single : MayEnd in_single text → SingleRest text
  double : MayEnd in_double text → DoubleRest text
  behind_mark : MayEnd in_double_escape text → MarkRest text

-- ---- outside quotes

-- a piece that begins here, and what is behind it
record Begun (text : List ℕ) : Type 0 where
  piece : Piece
  behind : List ℕ
  fits : is_piece piece ≡ true
  rest : Rest behind
  is : piece_written piece ++ behind ≡ text

begun-written : (text : List ℕ) (g : Begun text)
    → pieces_written (g.piece ∷ g.rest.pieces) ++ (g.rest.blanks ++ words_written g.rest.words) ≡ text
begun-written text g =
    append_assoc (piece_written g.piece) (pieces_written g.rest.pieces) (g.rest.blanks ++ words_written g.rest.words)
    ∙ (ap (λ (u : List ℕ). piece_written g.piece ++ u) g.rest.is ∙ g.is)

begun-rest : (text : List ℕ) → Begun text → Rest text
begun-rest text g = record {
  pieces = g.piece ∷ g.rest.pieces;
  blanks = g.rest.blanks;
  words = g.rest.words;
  are_pieces = rw (g.fits, g.rest.are_pieces) refl;
  are_blanks = g.rest.are_blanks;
  apart = g.rest.apart;
  are_words = g.rest.are_words;
  is = begun-written text g;
}

no_end : {X : Type 0} (x : X) (xs : List X) → x ∷ xs ≢ []
no_end x xs e = cc

begun-tail : (text : List ℕ) → Begun text → Tail text
begun-tail text g = record {
  blanks = [];
  words = record { pieces = g.piece ∷ g.rest.pieces; blanks = g.rest.blanks } ∷ g.rest.words;
  are_blanks = refl;
  are_words = (
    record {
      some = no_end g.piece g.rest.pieces;
      pieces = rw (g.fits, g.rest.are_pieces) refl;
      blanks = g.rest.are_blanks;
    },
    g.rest.apart,
    g.rest.are_words,
  );
  is = append_assoc (pieces_written (g.piece ∷ g.rest.pieces)) g.rest.blanks (words_written g.rest.words)
      ∙ begun-written text g;
}

blank-tail : (b : ℕ) (text : List ℕ) → is_blank b ≡ true → Tail text → Tail (b ∷ text)
blank-tail b text h t = record {
  blanks = b ∷ t.blanks;
  words = t.words;
  are_blanks = rw (h, t.are_blanks) refl;
  are_words = t.are_words;
  is = ap (λ (u : List ℕ). b ∷ u) t.is;
}

blank-rest : (b : ℕ) (text : List ℕ) → is_blank b ≡ true → Tail text → Rest (b ∷ text)
blank-rest b text h t = record {
  pieces = [];
  blanks = b ∷ t.blanks;
  words = t.words;
  are_pieces = refl;
  are_blanks = rw (h, t.are_blanks) refl;
  apart = λ some. no_end b t.blanks;
  are_words = t.are_words;
  is = ap (λ (u : List ℕ). b ∷ u) t.is;
}

-- a blank, or a piece that begins
data Next (b : ℕ) (text : List ℕ) : Type 0 where
  Blank : is_blank b ≡ true → Tail text → Next b text
  Begins : Begun (b ∷ text) → Next b text

first_is : (b c : ℕ) (text : List ℕ) → b ≡ c → c ∷ text ≡ b ∷ text
first_is b c text e = ap (λ (x : ℕ). x ∷ text) (sym e)

begun-single : (b : ℕ) (text : List ℕ) → b ≡ 39 → SingleRest text → Begun (b ∷ text)
begun-single b text e r = record {
  piece = Single r.bytes;
  behind = r.behind;
  fits = r.are_bytes;
  rest = r.rest;
  is = ap (λ (u : List ℕ). 39 ∷ u) (append_assoc r.bytes (39 ∷ []) r.behind ∙ r.is) ∙ first_is b 39 text e;
}

begun-double : (b : ℕ) (text : List ℕ) → b ≡ 34 → DoubleRest text → Begun (b ∷ text)
begun-double b text e r = record {
  piece = Double r.items;
  behind = r.behind;
  fits = r.are_items;
  rest = r.rest;
  is = ap (λ (u : List ℕ). 34 ∷ u) (append_assoc (flat_map item_written r.items) (34 ∷ []) r.behind ∙ r.is)
      ∙ first_is b 34 text e;
}

begun-escape : (b : ℕ) (text : List ℕ) → b ≡ 92 → EscapeRest text → Begun (b ∷ text)
begun-escape b text e r = record {
  piece = Escaped r.byte;
  behind = r.behind;
  fits = refl;
  rest = r.rest;
  is = ap (λ (u : List ℕ). 92 ∷ u) r.is ∙ first_is b 92 text e;
}

begun-bare : (b : ℕ) (text : List ℕ) → (is_blank b || (b == 39 || b == 34 || b == 92)) ≡ false → Rest text
    → Begun (b ∷ text)
begun-bare b text none r = record { piece = Bare b; behind = text; fits = rw none refl; rest = r; is = refl }

moved : (text : List ℕ) (one other : Mode) → one ≡ other → MayEnd one text → MayEnd other text
moved text one other e h = subst (λ (mode : Mode). MayEnd mode text) e h

next : (b : ℕ) (text : List ℕ) → Left text → MayEnd (mode_outside b) text → Next b text
next b text left h = by_blank (is_blank b) refl where
  by_mark : is_blank b ≡ false → (single double slash : Bool) → (b == 39) ≡ single → (b == 34) ≡ double
      → (b == 92) ≡ slash → Next b text
  by_mark e true double slash f g k =
      let at : b ≡ 39 = eqb-true b 39 f in
      Begins (begun-single b text at (left.single (moved text (mode_outside b) in_single (ap mode_outside at) h)))
  by_mark e false true slash f g k =
      let at : b ≡ 34 = eqb-true b 34 g in
      Begins (begun-double b text at (left.double (moved text (mode_outside b) in_double (ap mode_outside at) h)))
  by_mark e false false true f g k =
      let at : b ≡ 92 = eqb-true b 92 k in
      Begins (begun-escape b text at (left.behind_slash (moved text (mode_outside b) in_escape (ap mode_outside at) h)))
  by_mark e false false false f g k =
      let none : (is_blank b || (b == 39 || b == 34 || b == 92)) ≡ false = rw (e, f, g, k) refl in
      Begins (begun-bare b text none (left.within_word (moved text (mode_outside b) within (bare b none).outside h)))

  by_blank : (t : Bool) → is_blank b ≡ t → Next b text
  by_blank true e = Blank e (left.between_words (moved text (mode_outside b) between (blank b e).outside h))
  by_blank false e = by_mark e (b == 39) (b == 34) (b == 92) refl refl refl

next-tail : (b : ℕ) (text : List ℕ) → Next b text → Tail (b ∷ text)
next-tail b text (Blank h t) = blank-tail b text h t
next-tail b text (Begins g) = begun-tail (b ∷ text) g

next-rest : (b : ℕ) (text : List ℕ) → Next b text → Rest (b ∷ text)
next-rest b text (Blank h t) = blank-rest b text h t
next-rest b text (Begins g) = begun-rest (b ∷ text) g

-- ---- within quotes

single-step : (b : ℕ) (text : List ℕ) → Left text → MayEnd in_single (b ∷ text) → SingleRest (b ∷ text)
single-step b text left h = by_quote (b == 39) refl h where
  by_quote : (t : Bool) → (b == 39) ≡ t → MayEnd (if t then within else in_single) text → SingleRest (b ∷ text)
  by_quote true e k = record {
    bytes = [];
    behind = text;
    are_bytes = refl;
    rest = left.within_word k;
    is = first_is b 39 text (eqb-true b 39 e);
  }
  by_quote false e k =
      let r : SingleRest text = left.single k in
      record {
        bytes = b ∷ r.bytes;
        behind = r.behind;
        are_bytes = rw (e, r.are_bytes) refl;
        rest = r.rest;
        is = ap (λ (u : List ℕ). b ∷ u) r.is;
      }

-- an item behind a backslash
marked-item : (b : ℕ) (text : List ℕ) → b ≡ 92 → MarkRest text → DoubleRest (b ∷ text)
marked-item b text at r = by_mark (is_marked r.byte) refl where
  same : 92 ∷ r.byte ∷ (flat_map item_written r.rest.items ++ 34 ∷ r.rest.behind) ≡ b ∷ text
  same = ap (λ (u : List ℕ). 92 ∷ r.byte ∷ u) r.rest.is ∙ (ap (λ (u : List ℕ). 92 ∷ u) r.is ∙ first_is b 92 text at)

  by_mark : (t : Bool) → is_marked r.byte ≡ t → DoubleRest (b ∷ text)
  by_mark true e = record {
    items = Marked r.byte ∷ r.rest.items;
    behind = r.rest.behind;
    are_items = rw (e, r.rest.are_items) refl;
    rest = r.rest.rest;
    is = same;
  }
  by_mark false e = record {
    items = Both r.byte ∷ r.rest.items;
    behind = r.rest.behind;
    are_items = rw (e, r.rest.are_items) refl;
    rest = r.rest.rest;
    is = same;
  }

double-step : (b : ℕ) (text : List ℕ) → Left text → MayEnd in_double (b ∷ text) → DoubleRest (b ∷ text)
double-step b text left h = by_mark (b == 34) (b == 92) refl refl h where
  by_mark : (quote slash : Bool) → (b == 34) ≡ quote → (b == 92) ≡ slash
      → MayEnd (if quote then within else (if slash then in_double_escape else in_double)) text
      → DoubleRest (b ∷ text)
  by_mark true slash e f k = record {
    items = [];
    behind = text;
    are_items = refl;
    rest = left.within_word k;
    is = first_is b 34 text (eqb-true b 34 e);
  }
  by_mark false true e f k = marked-item b text (eqb-true b 92 f) (left.behind_mark k)
  by_mark false false e f k =
      let r : DoubleRest text = left.double k in
      record {
        items = Itself b ∷ r.items;
        behind = r.behind;
        are_items = rw (e, f, r.are_items) refl;
        rest = r.rest;
        is = ap (λ (u : List ℕ). b ∷ u) r.is;
      }

-- ---- the whole line

open_end : false ≡ true → ⊥
open_end e = cc

left : (text : List ℕ) → Left text
left [] = record {
  between_words = λ h. record { blanks = []; words = []; are_blanks = refl; are_words = tt; is = refl };
  within_word = λ h. record {
    pieces = [];
    blanks = [];
    words = [];
    are_pieces = refl;
    are_blanks = refl;
    apart = λ some. absurd (some refl);
    are_words = tt;
    is = refl;
  };
  behind_slash = λ h. absurd (open_end h);
  single = λ h. absurd (open_end h);
  double = λ h. absurd (open_end h);
  behind_mark = λ h. absurd (open_end h);
}
left (b ∷ text) =
    let more : Left text = left text in
    record {
      between_words = λ h. next-tail b text (next b text more h);
      within_word = λ h. next-rest b text (next b text more h);
      behind_slash = λ h. record { byte = b; behind = text; rest = more.within_word h; is = refl };
      single = single-step b text more;
      double = double-step b text more;
      behind_mark = λ h. record { byte = b; behind = text; rest = more.double h; is = refl };
    }

pub closed-line : (line : List ℕ) → open_place line ≡ None
    → (sentence : Sentence) × IsSentence sentence × (sentence_written sentence ≡ line)
closed-line line h =
    let whole : Tail line = (left line).between_words (ends line h) in (
      record { blanks = whole.blanks; words = whole.words },
      record {
        blanks = whole.are_blanks;
        words = whole.are_words;
      },
      whole.is,
    )
