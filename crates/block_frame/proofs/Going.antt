-- How looking goes on: line by line, and where more bytes come.
use Rattle.std.proofs.Common.{◌≡◌, ℕ, ◌+◌, ◌-◌, ◌<◌, ◌≤◌, List, [], ◌∷◌, ◌++◌, length, take, drop, Some, true, false, leb, arith, sym, ap, ◌∙◌, subst, refl, append_assoc, codes, Result, Ok, Err, OnErr}
use Rattle.std.specs.List.{slice_range}
use Rattle.std.proofs.lemmas.Bool.Decides.{nat_tests}
use Rattle.std.proofs.lemmas.List.{append-nil, length-append, length-take-le, take_at, drop_at, take-append-drop, take-append-le}
use Rattle.block_frame.specs.declared.block.Block.{Block}
use Rattle.block_frame.specs.declared.form.Form.{Form}
use Rattle.block_frame.specs.declared.form.Form.TheVariants.{Plain}
use Rattle.block_frame.specs.declared.lines.Seen.TheVariants as seen
use Rattle.block_frame.specs.declared.looking.Lines.{Lines}
use Rattle.block_frame.specs.declared.looking.Scan.{Scan}
use Rattle.block_frame.specs.declared.looking.Scan.TheVariants as scan
use Rattle.block_frame.specs.Attachments.{LineStart, Unended, behind, dotted, reading_at}
use Rattle.block_frame.specs.Grammar.{IsHeaderLine, IsPartial, IsBad, BeginsWithBlock, is_marked, header_line, spelled}
use Rattle.block_frame.specs.Looking.{owed, has_room, IsSeen, IsUnderWay, IsScanned, IsFirst, line_block, attached_block}
use Rattle.block_frame.proofs.FirstLines.{line_len, line_grows, ended_line}
use Rattle.block_frame.proofs.Readings.{goes_on, reading_at-append, has_room-behind, unended_is_spelled, undotted_lines, last_from_ends}
use Rattle.block_frame.proofs.Plain.{marked_is, header_line_of, open_attachment, off_attachment, length-spelled}

-- where the parts of a text under way stand
pub rest_is : (text : List ℕ) (lines : Lines) (way : IsUnderWay text lines) → drop lines.at text ≡ way.rest
rest_is text lines way =
    let cut : text ≡ (way.line ++ 10 ∷ way.front) ++ way.rest = way.cut ∙ sym (append_assoc way.line (10 ∷ way.front) way.rest) in
    let len : length (way.line ++ 10 ∷ way.front) ≡ lines.at = length-append way.line (10 ∷ way.front) ∙ omega (arith, way.at) in
    ap (drop lines.at) cut ∙ drop_at (way.line ++ 10 ∷ way.front) way.rest lines.at len

pub at_fits : (text : List ℕ) (lines : Lines) → IsUnderWay text lines → lines.at ≤ length text
at_fits text lines way =
    let len = ap length way.cut ∙ length-append way.line (10 ∷ (way.front ++ way.rest)) in
    let parts = length-append way.front way.rest in
    let at = way.at in
    omega arith

-- what the front of an attachment and the rest are read as
read_all : (text : List ℕ) (lines : Lines) (way : IsUnderWay text lines) → reading_at LineStart (way.front ++ way.rest) ≡ behind way.bytes (reading_at LineStart way.rest)
read_all text lines way = reading_at-append LineStart way.front way.rest ∙ ap (λ r. goes_on r way.rest) way.read

-- one line more
pub one_line_more : (text : List ℕ) (lines : Lines) (len size : ℕ) → IsUnderWay text lines → IsSeen (65536 - lines.size) (drop lines.at text) (seen.Line len size)
    → IsUnderWay text (record { header = lines.header; at = lines.at + (len + 1); size = lines.size + size; searched = 0 })
one_line_more text lines len size way line =
    let rest_at = rest_is text lines way in
    let (bytes, read, is_size, fits, ended) = rw rest_at at line in
    let next = take (len + 1) way.rest in
    let after = drop (len + 1) way.rest in
    let next_len : length next ≡ len + 1 = length-take-le (len + 1) way.rest (omega arith) in
    let sizes = way.size in
    let small = way.fits in
    let at = way.at in record {
      line = way.line;
      front = way.front ++ next;
      rest = after;
      bytes = way.bytes ++ bytes;
      cut = way.cut ∙ ap (λ t. way.line ++ 10 ∷ (way.front ++ t)) (sym (take-append-drop (len + 1) way.rest)) ∙ ap (λ t. way.line ++ 10 ∷ t) (sym (append_assoc way.front next after));
      is_line = way.is_line;
      marked = way.marked;
      read = reading_at-append LineStart way.front next ∙ ap (λ r. goes_on r next) way.read ∙ ap (behind way.bytes) read;
      header = way.header;
      at = simp length-append (omega arith);
      size = simp length-append (omega arith);
      fits = omega arith;
      searched = omega arith;
    }

-- bytes that are no LF
pub searched_more : (text : List ℕ) (lines : Lines) (searched : ℕ) → IsUnderWay text lines → searched ≤ line_len (drop lines.at text)
    → IsUnderWay text (record { header = lines.header; at = lines.at; size = lines.size; searched = searched })
searched_more text lines searched way found = record {
  line = way.line;
  front = way.front;
  rest = way.rest;
  bytes = way.bytes;
  cut = way.cut;
  is_line = way.is_line;
  marked = way.marked;
  read = way.read;
  header = way.header;
  at = way.at;
  size = way.size;
  fits = way.fits;
  searched = subst (λ t. searched ≤ line_len t) (rest_is text lines way) found;
}

-- a header line that is marked
pub begins_attachment : (text : List ℕ) → 0 < line_len text → line_len text ≤ 8192 → line_len text < length text → is_marked (take (line_len text) text) ≡ true
    → IsUnderWay text (record { header = line_len text; at = line_len text + 1; size = 0; searched = 0 })
unfolding reading_at
begins_attachment text some fits ended marked =
    let len = length-take-le (line_len text) text (omega arith) in record {
      line = take (line_len text) text;
      front = [];
      rest = drop (line_len text + 1) text;
      bytes = [];
      cut = ended_line text ended;
      is_line = header_line_of text some fits ended;
      marked = marked;
      read = refl;
      header = sym len;
      at = omega arith;
      size = refl;
      fits = omega arith;
      searched = omega arith;
    }

fitting : (n room : ℕ) → leb n room ≡ true → n ≤ room
fitting n room e = grind (arith, nat_tests)

-- an attachment that isn't ended
pub unended_sight : (text : List ℕ) (lines : Lines) (searched : ℕ) → IsUnderWay text lines → IsSeen (65536 - lines.size) (drop lines.at text) (seen.Open searched) → IsPartial Plain text
unended_sight text lines searched way line =
    let (at, bytes, read, room, found) = rw (rest_is text lines way) at line in
    let all : reading_at LineStart (way.front ++ way.rest) ≡ Unended at (way.bytes ++ bytes) = read_all text lines way ∙ ap (behind way.bytes) read in
    let size = way.size in
    let small = way.fits in
    let fits : length (way.bytes ++ bytes) + owed at ≤ 65536 = simp length-append (omega (arith, fitting (length bytes + owed at) (65536 - lines.size) room)) in
    subst (IsPartial Plain) (sym way.cut) (open_attachment way.line (way.front ++ way.rest) (way.bytes ++ bytes) at way.is_line way.marked all fits)

-- what is no attachment
pub off_sight : (text : List ℕ) (lines : Lines) (searched : ℕ) → IsUnderWay text lines → IsSeen (65536 - lines.size) (drop lines.at text) (seen.Bad searched) → IsBad Plain text
off_sight text lines searched way line =
    let none = (rw (rest_is text lines way) at line).0 in
    let size = way.size in
    let small = way.fits in
    let all : has_room 65536 (reading_at LineStart (way.front ++ way.rest)) ≡ false =
    ap (has_room 65536) (read_all text lines way) ∙ has_room-behind 65536 way.bytes (reading_at LineStart way.rest) (omega arith)
    ∙ ap (λ n. has_room (65536 - n) (reading_at LineStart way.rest)) (sym size) ∙ none in
    subst (IsBad Plain) (sym way.cut) (off_attachment way.line (way.front ++ way.rest) way.is_line way.marked all)

-- where more bytes come
pub scanned_grows : (text more : List ℕ) (s : Scan) → IsScanned text s → IsScanned (text ++ more) s
scanned_grows text more (scan.Header searched) found = let grows = line_grows text more in omega arith
scanned_grows text more (scan.Attachment lines) way = record {
  line = way.line;
  front = way.front;
  rest = way.rest ++ more;
  bytes = way.bytes;
  cut = ap (λ t. t ++ more) way.cut ∙ append_assoc way.line (10 ∷ (way.front ++ way.rest)) more ∙ ap (λ t. way.line ++ 10 ∷ t) (append_assoc way.front way.rest more);
  is_line = way.is_line;
  marked = way.marked;
  read = way.read;
  header = way.header;
  at = way.at;
  size = way.size;
  fits = way.fits;
  searched = let grows = line_grows way.rest more in let found = way.searched in omega arith;
}

-- a header line that isn't marked
pub line_sight : (text : List ℕ) → 0 < line_len text → line_len text ≤ 8192 → line_len text < length text → is_marked (take (line_len text) text) ≡ false
    → IsFirst Plain text (line_block text (line_len text)) (line_len text + 1)
line_sight text some fits ended marked =
    let line = take (line_len text) text in
    let same = append-nil line in
    let len = length-take-le (line_len text) text (omega arith) in record {
      is_block = record { line = rw same (header_line_of text some fits ended); marked = rw same marked; attachment = tt };
      cut = rw same (ended_line text ended ∙ sym (append_assoc line (10 ∷ []) (drop (line_len text + 1) text)));
      count_is = rw same (length-append line (10 ∷ []) ∙ ap (λ n. n + 1) len);
    }

-- the block of a text under way whose next line is a dot alone
whole_block : (text : List ℕ) (lines : Lines) (way : IsUnderWay text lines) → way.rest ≡ 46 ∷ 10 ∷ drop 2 way.rest
    → IsFirst Plain text (record { header = take (length way.line - 2) way.line; attachment = Some way.bytes }) (lines.at + 2)
whole_block text lines way last =
    let same = sym (marked_is way.line way.marked) in
    let (is_front, dots) = unended_is_spelled way.front way.bytes LineStart way.read in
    let front : way.front ≡ dotted true way.bytes = is_front ∙ append-nil (dotted true way.bytes) in
    let block : Block = record { header = take (length way.line - 2) way.line; attachment = Some way.bytes } in
    let size = way.size in
    let small = way.fits in
    let at = way.at in
    let tail = drop 2 way.rest in
    let lines_are : way.front ++ way.rest ≡ (dotted true way.bytes ++ 46 ∷ 10 ∷ []) ++ tail =
    ap (λ t. way.front ++ t) last ∙ ap (λ t. t ++ 46 ∷ 10 ∷ tail) front ∙ sym (append_assoc (dotted true way.bytes) (46 ∷ 10 ∷ []) tail) in
    let cut : text ≡ spelled Plain block ++ tail =
    way.cut ∙ ap (λ t. way.line ++ 10 ∷ t) lines_are ∙ ap (λ l. l ++ 10 ∷ ((dotted true way.bytes ++ 46 ∷ 10 ∷ []) ++ tail)) (sym same)
    ∙ sym (append_assoc (header_line block) (10 ∷ (dotted true way.bytes ++ 46 ∷ 10 ∷ [])) tail) in
    let line_len_is : length (header_line block) ≡ length way.line = ap length same in
    let lines_len : length (dotted true way.bytes ++ 46 ∷ 10 ∷ []) ≡ length way.front + 2 = length-append (dotted true way.bytes) (46 ∷ 10 ∷ []) ∙ ap (λ n. n + 2) (ap length (sym front)) in
    let count : length (spelled Plain block) ≡ lines.at + 2 = length-spelled block ∙ omega arith in record {
      is_block = record {
        line = subst IsHeaderLine (sym same) way.is_line;
        marked = ap is_marked same ∙ way.marked;
        attachment = record { ended = last_from_ends way.bytes dots; fits = omega arith };
      };
      cut = cut ∙ ap (λ t. spelled Plain block ++ t) (sym (ap (drop (lines.at + 2)) cut ∙ drop_at (spelled Plain block) tail (lines.at + 2) count));
      count_is = count;
    }

-- the parts of a text under way are the front of it
header_is : (text : List ℕ) (lines : Lines) (way : IsUnderWay text lines) → take (lines.header - 2) text ≡ take (length way.line - 2) way.line
header_is text lines way =
    ap (λ n. take (n - 2) text) way.header ∙ ap (take (length way.line - 2)) way.cut
    ∙ take-append-le (length way.line - 2) way.line (10 ∷ (way.front ++ way.rest)) (omega arith)

lines_are : (text : List ℕ) (lines : Lines) (way : IsUnderWay text lines) → slice_range text (lines.header + 1) lines.at ≡ way.front
lines_are text lines way =
    let header = way.header in
    let at = way.at in
    let longer : text ≡ (way.line ++ 10 ∷ []) ++ (way.front ++ way.rest) = way.cut ∙ sym (append_assoc way.line (10 ∷ []) (way.front ++ way.rest)) in
    let behind_line : drop (lines.header + 1) text ≡ way.front ++ way.rest =
    ap (drop (lines.header + 1)) longer ∙ drop_at (way.line ++ 10 ∷ []) (way.front ++ way.rest) (lines.header + 1) (length-append way.line (10 ∷ []) ∙ omega arith) in
    ap (take (lines.at - (lines.header + 1))) behind_line ∙ take_at way.front way.rest (lines.at - (lines.header + 1)) (omega arith)

pub last_sight : (text : List ℕ) (lines : Lines) → IsUnderWay text lines → IsSeen (65536 - lines.size) (drop lines.at text) seen.Last
    → IsFirst Plain text (attached_block text lines.header lines.at) (lines.at + 2) × (2 ≤ lines.header) × (lines.header + 1 ≤ lines.at) × (lines.at + 2 ≤ length text)
last_sight text lines way line =
    let last = rw (rest_is text lines way) at line in
    let (found, dots) = undotted_lines way.front way.bytes way.read in
    let whole = whole_block text lines way last in
    let same : attached_block text lines.header lines.at ≡ record { header = take (length way.line - 2) way.line; attachment = Some way.bytes } =
    rw (header_is text lines way, lines_are text lines way, found) refl in
    let header = way.header in
    let at = way.at in
    let marks = ap length (marked_is way.line way.marked) ∙ length-append (take (length way.line - 2) way.line) (codes "<<") in
    let total = ap length whole.cut ∙ length-append (spelled Plain (record { header = take (length way.line - 2) way.line; attachment = Some way.bytes })) (drop (lines.at + 2) text) in
    let count = whole.count_is in
    (subst (λ b. IsFirst Plain text b (lines.at + 2)) (sym same) whole, omega arith, omega arith, omega arith)

pub first_begins : (form : Form) (text : List ℕ) (block : Block) (count : ℕ) → IsFirst form text block count → BeginsWithBlock form text
first_begins form text block count first = record { block = block; more = drop count text; is_block = first.is_block; cut = first.cut }

-- what is so anyhow is so at an error
pub on_err : {T E P : Type 0} (r : Result T E) → P → OnErr r P
on_err (Ok x) p = tt
on_err (Err e) p = p
