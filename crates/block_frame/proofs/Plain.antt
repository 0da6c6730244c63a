-- What the plain form owes: what stands behind a header line makes a block, can begin one, or does neither.
use Rattle.std.proofs.Common.{◌≡◌, ◌≢◌, ℕ, ◌+◌, ◌-◌, ◌<◌, ◌≤◌, List, [], ◌∷◌, ◌++◌, length, take, drop, Option, Some, None, Bool, true, false, ◌⊎◌, inl, inr, arith, sym, ap, ◌∙◌, subst, refl, cond, append_assoc, lit<, lit≤, codes, leb, is_some, IfSome}
use Rattle.std.proofs.lemmas.Bool.{cases_lt}
use Rattle.std.proofs.lemmas.Bool.Decides.{nat_tests, leb_tells, Decides-eqb}
use Rattle.std.proofs.lemmas.List.Elements.{All-nil, All-cons}
use Rattle.std.proofs.lemmas.List.Prefix.{front_rest}
use Rattle.std.proofs.lemmas.List.{append-nil, length-append, take_at, drop_at, take_all, length-take-le}
use Rattle.std.proofs.lemmas.Slice.Eq.{ends_is}
use Rattle.block_frame.specs.declared.block.Block.{Block}
use Rattle.block_frame.specs.declared.form.Form.TheVariants.{Plain}
use Rattle.block_frame.specs.Attachments.{IsAttachment, dotted, attachment_lines, Place, LineStart, FirstDot, InLine, Reading, Ended, Unended, Off, reading_at}
use Rattle.block_frame.specs.Grammar.{IsHeaderLine, IsPlainBlock, IsBlock, IsPartial, IsBad, spelled, header_line, is_marked, is_header_len, block_of, with_attachment, first_block, longest_block}
use Rattle.block_frame.specs.Looking.{owed, has_room}
use Rattle.block_frame.proofs.FirstLines.{IsOneLine, line_len, line_len-line, line_fits, line_grows, line_stays, first_line, ended_line, same_lines}
use Rattle.block_frame.proofs.Readings.{goes_on, reading_at-append, reading_at-attachment, ended_is_spelled, completes, gained, ending, no_room_stays, ends_from_last, last_from_ends, length-dotted_lines}

-- a header line's end tells whether it is marked

pub marked_is : (line : List ℕ) → is_marked line ≡ true → line ≡ take (length line - 2) line ++ codes "<<"
marked_is line e =
    let front = take (length line - 3) line in
    let cut : line ≡ front ++ codes " <<" = (ends_is Decides-eqb line (codes " <<") (is_marked line) refl).0 e in
    let longer : line ≡ (front ++ codes " ") ++ codes "<<" = cut ∙ sym (append_assoc front (codes " ") (codes "<<")) in
    let len : length line ≡ length (front ++ codes " ") + 2 = ap length longer ∙ length-append (front ++ codes " ") (codes "<<") in
    let shorter : take (length line - 2) line ≡ front ++ codes " " = ap (take (length line - 2)) longer ∙ take_at (front ++ codes " ") (codes "<<") (length line - 2) (omega arith) in
    longer ∙ ap (λ t. t ++ codes "<<") (sym shorter)

unmarked_front : (header : List ℕ) → take (length (header ++ codes "<<") - 2) (header ++ codes "<<") ≡ header
unmarked_front header = take_at header (codes "<<") (length (header ++ codes "<<") - 2) (simp length-append (omega arith))

-- the first block of a text whose first line has this length
with_len : ℕ → List ℕ → Option Block
with_len end text = cond (is_header_len end (length text)) (block_of (is_marked (take end text)) (take end text) (drop (end + 1) text)) None

first_block-with_len : (text : List ℕ) (end : ℕ) → line_len text ≡ end → first_block Plain text ≡ with_len end text
unfolding first_block with_len
first_block-with_len text end e = ap (λ n. with_len n text) e

header_fits : (end text : ℕ) → 0 < end → end ≤ 8192 → end < text → is_header_len end text ≡ true
header_fits end text a b c = grind (arith, nat_tests)

fitting_header : (end text : ℕ) → is_header_len end text ≡ true → (0 < end) × (end ≤ 8192) × (end < text)
fitting_header end text e = (grind (arith, nat_tests), grind (arith, nat_tests), grind (arith, nat_tests))

-- a header line and what follows it
pub first_block-line : (line more : List ℕ) → IsHeaderLine line → first_block Plain (line ++ 10 ∷ more) ≡ block_of (is_marked line) line more
unfolding with_len
first_block-line line more is_line =
    let text = line ++ 10 ∷ more in
    let end = length line in
    let long : end < length text = simp length-append (omega arith) in
    let front : take end text ≡ line = take_at line (10 ∷ more) end refl in
    let longer : text ≡ (line ++ 10 ∷ []) ++ more = sym (append_assoc line (10 ∷ []) more) in
    let rest : drop (end + 1) text ≡ more = ap (drop (end + 1)) longer ∙ drop_at (line ++ 10 ∷ []) more (end + 1) (length-append line (10 ∷ [])) in
    first_block-with_len text end (line_len-line line more is_line.one_line)
    ∙ rw (header_fits end (length text) is_line.not_empty is_line.fits long, front, rest) refl

fits_test : (n : ℕ) → n ≤ 65536 → leb n 65536 ≡ true
fits_test n l = grind (arith, nat_tests)

-- the block of a header and an attachment, or of a header alone
block_of-parts : (header : List ℕ) (attachment : Option (List ℕ)) (more : List ℕ) → let block : Block = record { header = header; attachment = attachment } in
    IsPlainBlock block → block_of (is_marked (header_line block)) (header_line block) (attachment_lines attachment ++ more) ≡ Some block
block_of-parts header None more b = rw (b.marked, append-nil) refl
block_of-parts header (Some bytes) more b =
    let is_attachment : IsAttachment bytes = b.attachment in
    let read : reading_at LineStart ((dotted true bytes ++ 46 ∷ 10 ∷ []) ++ more) ≡ Ended bytes =
    ap (reading_at LineStart) (append_assoc (dotted true bytes) (46 ∷ 10 ∷ []) more) ∙ reading_at-attachment bytes more (ends_from_last bytes is_attachment.ended) in
    rw (b.marked, read, fits_test (length bytes) is_attachment.fits, unmarked_front) refl

-- the block that stands at the front of a text is its first block
pub first_block-spelled : (block : Block) (more : List ℕ) → IsBlock Plain block → first_block Plain (spelled Plain block ++ more) ≡ Some block
first_block-spelled block more b =
    ap (first_block Plain) (append_assoc (header_line block) (10 ∷ attachment_lines block.attachment) more)
    ∙ first_block-line (header_line block) (attachment_lines block.attachment ++ more) b.line
    ∙ block_of-parts block.header block.attachment more b

some_same : (x y : Block) → Some x ≡ Some y → x ≡ y
some_same x y e = cc

none_some : (block : Block) → None ≡ Some block → ⊥
none_some block e = absurd (cc)

-- a header line and what follows begin with the block that they make
record Makes (line more : List ℕ) (block : Block) : Type 0 where
  line_is : header_line block ≡ line
  marked : is_marked line ≡ is_some block.attachment
  attachment : IfSome block.attachment IsAttachment
  rest : List ℕ
  cut : more ≡ attachment_lines block.attachment ++ rest

with_attachment-some : (line more header : List ℕ) (r : Reading) (block : Block) → is_marked line ≡ true → header ≡ take (length line - 2) line → reading_at LineStart more ≡ r
    → with_attachment header r ≡ Some block → Makes line more block
with_attachment-some line more header (Ended bytes) block marked is_header read e =
    elim (leb_tells (length bytes) 65536) [
      | inl fits ↦
          let (spelled_so, is_ended) = ended_is_spelled more bytes read in
          let made : Block = record { header = header; attachment = Some bytes } in
          let same : made ≡ block = some_same made block (rw fits.0 at e) in
          subst (Makes line more) same (record {
            line_is = rw is_header (sym (marked_is line marked));
            marked = marked;
            attachment = record { ended = last_from_ends bytes is_ended; fits = fits.1 };
            rest = spelled_so.0;
            cut = spelled_so.1 ∙ sym (append_assoc (dotted true bytes) (46 ∷ 10 ∷ []) spelled_so.0);
          })
      | inr over ↦ absurd (none_some block (rw over.0 at e))
    ]
with_attachment-some line more header (Unended at bytes) block marked is_header read e = absurd (none_some block e)
with_attachment-some line more header Off block marked is_header read e = absurd (none_some block e)

block_of-some : (line more : List ℕ) (c : Bool) (block : Block) → is_marked line ≡ c → block_of c line more ≡ Some block → Makes line more block
block_of-some line more false block marked e =
    let made : Block = record { header = line; attachment = None } in
    subst (Makes line more) (some_same made block e) (record {
      line_is = append-nil line;
      marked = marked;
      attachment = tt;
      rest = more;
      cut = refl;
    })
block_of-some line more true block marked e =
    with_attachment-some line more (take (length line - 2) line) (reading_at LineStart more) block marked refl refl e

-- the front of a cut text is cut off by its length
pub cut_at : (text front rest : List ℕ) → text ≡ front ++ rest → text ≡ front ++ drop (length front) text
cut_at text front rest e = e ∙ ap (λ t. front ++ t) (sym (front_rest text front rest e))

pub header_line_of : (text : List ℕ) → 0 < line_len text → line_len text ≤ 8192 → line_len text < length text → IsHeaderLine (take (line_len text) text)
header_line_of text some fits ended =
    let len = length-take-le (line_len text) text (omega arith) in record {
      one_line = first_line text;
      not_empty = rw len some;
      fits = rw len fits;
    }

chosen : (c : Bool) (x : Option Block) (block : Block) → cond c x None ≡ Some block → (c ≡ true) × (x ≡ Some block)
chosen true x block e = (refl, e)
chosen false x block e = absurd (none_some block e)

made_block : (line more : List ℕ) (block : Block) → IsHeaderLine line → Makes line more block → IsBlock Plain block × (line ++ 10 ∷ more ≡ spelled Plain block ++ drop (length (spelled Plain block)) (line ++ 10 ∷ more))
made_block line more block is_line makes =
    let lines = attachment_lines block.attachment in
    let longer : line ++ 10 ∷ more ≡ spelled Plain block ++ makes.rest =
    ap (λ l. l ++ 10 ∷ more) (sym makes.line_is) ∙ ap (λ t. header_line block ++ 10 ∷ t) makes.cut ∙ sym (append_assoc (header_line block) (10 ∷ lines) makes.rest) in (
      record {
        line = subst IsHeaderLine (sym makes.line_is) is_line;
        marked = ap is_marked makes.line_is ∙ makes.marked;
        attachment = makes.attachment;
      },
      cut_at (line ++ 10 ∷ more) (spelled Plain block) makes.rest longer,
    )

-- a text begins with its first block
pub begins_with_first : (text : List ℕ) (block : Block) → first_block Plain text ≡ Some block → IsBlock Plain block × (text ≡ spelled Plain block ++ drop (length (spelled Plain block)) text)
unfolding with_len
begins_with_first text block e =
    let end = line_len text in
    let line = take end text in
    let more = drop (end + 1) text in
    let (test, made) = chosen (is_header_len end (length text)) (block_of (is_marked line) line more) block (sym (first_block-with_len text end refl) ∙ e) in
    let (some, fits, ended) = fitting_header end (length text) test in
    let makes = block_of-some line more (is_marked line) block refl made in
    let whole = made_block line more block (header_line_of text some fits ended) makes in
    subst (λ t. IsBlock Plain block × (t ≡ spelled Plain block ++ drop (length (spelled Plain block)) t)) (sym (ended_line text ended)) whole

-- how long a block is

short_lines : (attachment : Option (List ℕ)) → IfSome attachment IsAttachment → length (attachment_lines attachment) ≤ 98306
short_lines None is_attachment = omega arith
short_lines (Some bytes) is_attachment =
    let fits = is_attachment.fits in
    let dots = length-dotted_lines bytes (ends_from_last bytes is_attachment.ended) in
    simp length-append (omega arith)

pub length-spelled : (block : Block) → length (spelled Plain block) ≡ length (header_line block) + 1 + length (attachment_lines block.attachment)
length-spelled block = length-append (header_line block) (10 ∷ attachment_lines block.attachment) ∙ omega arith

pub short_block : (block : Block) → IsBlock Plain block → (0 < length (spelled Plain block)) × (length (spelled Plain block) ≤ longest_block)
short_block block b =
    let len = length-spelled block in
    let fits = b.line.fits in
    let lines = short_lines block.attachment b.attachment in
    (omega arith, omega arith)

-- a line, or nothing, that fits is a proper prefix of a block

zero_is_other : let zero_byte : ℕ = 0 in zero_byte ≢ 10
zero_is_other e = absurd (omega arith)

one_more_line : (line : List ℕ) (c : Bool) → is_marked line ≡ c → IsHeaderLine line → IsPartial Plain line
one_more_line line false marked is_line =
    let same = append-nil line in record {
      block = record { header = line; attachment = None };
      more = 10 ∷ [];
      is_block = record { line = rw same is_line; marked = rw same marked; attachment = tt };
      cut = rw same refl;
      proper = lit< tt;
    }
one_more_line line true marked is_line =
    let same = sym (marked_is line marked) in record {
      block = record { header = take (length line - 2) line; attachment = Some [] };
      more = 10 ∷ 46 ∷ 10 ∷ [];
      is_block = record { line = subst IsHeaderLine (sym same) is_line; marked = ap is_marked same ∙ marked; attachment = record { ended = λ some. absurd (omega arith); fits = lit≤ tt } };
      cut = ap (λ l. l ++ 10 ∷ 46 ∷ 10 ∷ []) same;
      proper = lit< tt;
    }

pub line_is_partial : (text : List ℕ) → IsOneLine text → length text ≤ 8192 → IsPartial Plain text
line_is_partial [] one fits = record {
  block = record { header = 0 ∷ []; attachment = None };
  more = 0 ∷ 10 ∷ [];
  is_block = record {
    line = record { one_line = All-cons (λ byte. byte ≢ 10) 0 [] zero_is_other (All-nil _); not_empty = lit< tt; fits = lit≤ tt };
    marked = refl;
    attachment = tt;
  };
  cut = refl;
  proper = lit< tt;
}
line_is_partial (byte ∷ bytes) one fits = one_more_line (byte ∷ bytes) (is_marked (byte ∷ bytes)) refl (record { one_line = one; not_empty = omega arith; fits = fits })

-- a text that is one line, not ended, and fits
pub open_line : (text : List ℕ) → line_len text ≡ length text → length text ≤ 8192 → IsPartial Plain text
open_line text whole fits = line_is_partial text (subst IsOneLine (take_all (line_len text) text (omega arith)) (first_line text)) fits

-- an attachment that has room, and isn't ended

ending_some : (at : Place) → 0 < length (ending at)
ending_some LineStart = lit< tt
ending_some FirstDot = lit< tt
ending_some InLine = lit< tt

pub open_attachment : (line text bytes : List ℕ) (at : Place) → IsHeaderLine line → is_marked line ≡ true → reading_at LineStart text ≡ Unended at bytes → length bytes + owed at ≤ 65536 → IsPartial Plain (line ++ 10 ∷ text)
open_attachment line text bytes at is_line marked read fits =
    let same = sym (marked_is line marked) in
    let whole = completes text bytes at read in record {
      block = record { header = take (length line - 2) line; attachment = Some (bytes ++ gained at) };
      more = ending at;
      is_block = record {
        line = subst IsHeaderLine (sym same) is_line;
        marked = ap is_marked same ∙ marked;
        attachment = record { ended = last_from_ends (bytes ++ gained at) whole.ended; fits = rw whole.len fits };
      };
      cut = ap (λ l. l ++ 10 ∷ (dotted true (bytes ++ gained at) ++ 46 ∷ 10 ∷ [])) same ∙ ap (λ t. line ++ 10 ∷ t) whole.cut ∙ sym (append_assoc line (10 ∷ text) (ending at));
      proper = ending_some at;
    }

-- what is bad: no block, whatever follows it, is the text with something behind it

bad_from : (text : List ℕ) → ((block : Block) (behind more : List ℕ) → IsBlock Plain block → spelled Plain block ++ behind ≡ text ++ more → ⊥) → IsBad Plain text
bad_from text apart = record {
  not_partial = λ p. apart p.block [] p.more p.is_block (append-nil (spelled Plain p.block) ∙ p.cut);
  no_block = λ begins. apart begins.block begins.more [] begins.is_block (sym begins.cut ∙ sym (append-nil text));
}

line_len-block : (block : Block) (more : List ℕ) → IsBlock Plain block → line_len (spelled Plain block ++ more) ≡ length (header_line block)
line_len-block block more b =
    ap line_len (append_assoc (header_line block) (10 ∷ attachment_lines block.attachment) more)
    ∙ line_len-line (header_line block) (attachment_lines block.attachment ++ more) b.line.one_line

pub long_line : (text : List ℕ) → 8192 < line_len text → IsBad Plain text
long_line text long = bad_from text (λ block behind more b e.
    let len = sym (line_len-block block behind b) ∙ ap line_len e in
    let grows = line_grows text more in
    let fits = b.line.fits in
    absurd (omega arith))

pub empty_line : (text : List ℕ) → line_len text ≡ 0 → 0 < length text → IsBad Plain text
empty_line text empty some = bad_from text (λ block behind more b e.
    let len = sym (line_len-block block behind b) ∙ ap line_len e in
    let stays = line_stays text more (omega arith) in
    let not_empty = b.line.not_empty in
    absurd (omega arith))

read_behind : (line text : List ℕ) (block : Block) (behind more : List ℕ) → IsHeaderLine line → IsBlock Plain block → spelled Plain block ++ behind ≡ (line ++ 10 ∷ text) ++ more
    → (header_line block ≡ line) × (attachment_lines block.attachment ++ behind ≡ text ++ more)
read_behind line text block behind more is_line b e =
    let cut = sym (append_assoc (header_line block) (10 ∷ attachment_lines block.attachment) behind) ∙ e ∙ append_assoc line (10 ∷ text) more in
    same_lines (header_line block) line (attachment_lines block.attachment ++ behind) (text ++ more) b.line.one_line is_line.one_line cut

no_room_for : (attachment : Option (List ℕ)) (text behind more : List ℕ) → has_room 65536 (reading_at LineStart text) ≡ false → is_some attachment ≡ true → IfSome attachment IsAttachment
    → attachment_lines attachment ++ behind ≡ text ++ more → ⊥
no_room_for None text behind more none marked is_attachment e = absurd (cc)
no_room_for (Some bytes) text behind more none marked is_attachment e =
    let own : IsAttachment bytes = is_attachment in
    let read : goes_on (reading_at LineStart text) more ≡ Ended bytes =
    sym (reading_at-append LineStart text more) ∙ ap (reading_at LineStart) (sym e ∙ append_assoc (dotted true bytes) (46 ∷ 10 ∷ []) behind) ∙ reading_at-attachment bytes behind (ends_from_last bytes own.ended) in
    let over = no_room_stays 65536 (reading_at LineStart text) more bytes none read in
    let fits = own.fits in
    absurd (omega arith)

pub off_attachment : (line text : List ℕ) → IsHeaderLine line → is_marked line ≡ true → has_room 65536 (reading_at LineStart text) ≡ false → IsBad Plain (line ++ 10 ∷ text)
off_attachment line text is_line marked none = bad_from (line ++ 10 ∷ text) (λ block behind more b e.
    let (same, rest) = read_behind line text block behind more is_line b e in
    no_room_for block.attachment text behind more none (sym b.marked ∙ ap is_marked same ∙ marked) b.attachment rest)

-- a text with no first block is a proper prefix of one, or bad

OpenOrOff : Reading → Type 0
OpenOrOff r = ((at : Place) × (bytes : List ℕ) × (r ≡ Unended at bytes) × (length bytes + owed at ≤ 65536)) ⊎ (has_room 65536 r ≡ false)

open_or_off : (header : List ℕ) (r : Reading) → with_attachment header r ≡ None → OpenOrOff r
unfolding OpenOrOff
open_or_off header (Ended bytes) none =
    elim (leb_tells (length bytes) 65536) [
      | inl fits ↦ absurd (none_some (record { header = header; attachment = Some bytes }) (sym (rw fits.0 at none)))
      | inr over ↦ inr over.0
    ]
open_or_off header (Unended at bytes) none =
    elim (leb_tells (length bytes + owed at) 65536) [ inl fits ↦ inl (at, bytes, refl, fits.1) | inr over ↦ inr over.0 ]
open_or_off header Off none = inr refl

other_line : (line more : List ℕ) (c : Bool) → IsHeaderLine line → is_marked line ≡ c → block_of c line more ≡ None → IsPartial Plain (line ++ 10 ∷ more) ⊎ IsBad Plain (line ++ 10 ∷ more)
unfolding OpenOrOff
other_line line more false is_line marked none = absurd (none_some (record { header = line; attachment = None }) (sym none))
other_line line more true is_line marked none =
    elim (open_or_off (take (length line - 2) line) (reading_at LineStart more) none) [
      | inl goes ↦ inl (open_attachment line more goes.1 goes.0 is_line marked goes.2 goes.3)
      | inr off ↦ inr (off_attachment line more is_line marked off)
    ]

ended_or_bad : (text : List ℕ) → line_len text ≤ 8192 → line_len text < length text → first_block Plain text ≡ None → IsPartial Plain text ⊎ IsBad Plain text
ended_or_bad text fits ended none =
    let line = take (line_len text) text in
    let more = drop (line_len text + 1) text in
    let cut = ended_line text ended in
    elim (cases_lt 0 (line_len text)) [
      | inl some ↦
          let is_line = header_line_of text some fits ended in
          let made = sym (first_block-line line more is_line) ∙ ap (first_block Plain) (sym cut) ∙ none in
          subst (λ t. IsPartial Plain t ⊎ IsBad Plain t) (sym cut) (other_line line more (is_marked line) is_line refl made)
      | inr empty ↦ inr (empty_line text (omega arith) (omega arith))
    ]

pub partial_or_bad : (text : List ℕ) → first_block Plain text ≡ None → IsPartial Plain text ⊎ IsBad Plain text
partial_or_bad text none =
    let within = line_fits text in
    elim (cases_lt 8192 (line_len text)) [
      | inl long ↦ inr (long_line text long)
      | inr fits ↦ elim (cases_lt (line_len text) (length text)) [
        | inl ended ↦ ended_or_bad text fits ended none
        | inr whole ↦ inl (open_line text (omega arith) (omega arith))
      ]
    ]
