-- What the framed form owes: a text begins with a frame, can go on to one, or does neither.
use Rattle.std.proofs.Common.{◌≡◌, ℕ, ◌+◌, ◌-◌, ◌<◌, ◌≤◌, List, [], ◌∷◌, ◌++◌, length, take, drop, replicate, get_or, Option, Some, None, Bool, true, false, ◌&&◌, cond, ltb, leb, ◌⊎◌, inl, inr, arith, sym, ap, ◌∙◌, subst, refl, append_assoc, lit<}
use Rattle.std.specs.List.{starts_with}
use Rattle.std.specs.Prelude.{nat_eq}
use Rattle.std.proofs.lemmas.Bool.{cases_lt}
use Rattle.std.proofs.lemmas.Bool.Decides.{nat_tests, Decides-eqb}
use Rattle.std.proofs.lemmas.List.{append-nil, length-append, length-drop, length-replicate, take_at, drop_at, take_all, length-take-le, take-append-drop}
use Rattle.std.proofs.lemmas.Slice.Eq.{starts_is}
use Rattle.block_frame.specs.declared.block.Block.{Block}
use Rattle.block_frame.specs.declared.form.Form.TheVariants.{Framed}
use Rattle.block_frame.specs.declared.framed.TheConstants.{MAX_CONTENT}
use Rattle.block_frame.specs.Frames.{IsFramedBlock, behind_header, content_of, length_bytes, announced, frame_of, behind_line, block_of_content, has_frame, framed_block}
use Rattle.block_frame.specs.Grammar.{IsBlock, IsPartial, IsBad, spelled, first_block, longest_block}
use Rattle.block_frame.specs.Looking.{IsFirst}
use Rattle.block_frame.proofs.FirstLines.{IsOneLine, line_len, line_len-line, line_len-open, line_fits, first_line, ended_line}
use Rattle.block_frame.proofs.Lengths.{HasBytes, HasNoByte, length-length_bytes, announced-length_bytes, begins_with_length, announced_grows, announced_stays, short_goes_on, length_bytes_small, grows_at, bytes_or_none}

-- a content and its block

cut_at_line : List ℕ → ℕ → Block
cut_at_line content line = record { header = take line content; attachment = behind_line content line }

below : (a b : ℕ) → a < b → ltb a b ≡ true
below a b l = grind (arith, nat_tests)

not_below : (a b : ℕ) → b ≤ a → ltb a b ≡ false
not_below a b l = grind (arith, nat_tests)

up_to : (a b : ℕ) → a ≤ b → leb a b ≡ true
up_to a b l = grind (arith, nat_tests)

cut_at_line-ended : (content : List ℕ) (line : ℕ) → line < length content → cut_at_line content line ≡ record { header = take line content; attachment = Some (drop (line + 1) content) }
unfolding cut_at_line
cut_at_line-ended content line l = rw (below line (length content) l) refl

cut_at_line-open : (content : List ℕ) → cut_at_line content (length content) ≡ record { header = content; attachment = None }
unfolding cut_at_line
cut_at_line-open content = rw (not_below (length content) (length content) (omega arith), take_all (length content) content (omega arith)) refl

block_of_content-cut : (content : List ℕ) (line : ℕ) → line_len content ≡ line → block_of_content content ≡ cut_at_line content line
unfolding cut_at_line
block_of_content-cut content line e = ap (cut_at_line content) e

-- the content of the block of a content is that content
pub content_of-block : (content : List ℕ) → content_of (block_of_content content) ≡ content
content_of-block content =
    elim (cases_lt (line_len content) (length content)) [
      | inl ended ↦
          ap content_of (block_of_content-cut content (line_len content) refl ∙ cut_at_line-ended content (line_len content) ended)
          ∙ sym (ended_line content ended)
      | inr unended ↦
          let fits = line_fits content in
          let whole : line_len content ≡ length content = omega arith in
          ap content_of (block_of_content-cut content (length content) whole ∙ cut_at_line-open content)
          ∙ append-nil content
    ]

block_of_parts : (header : List ℕ) (attachment : Option (List ℕ)) → IsOneLine header → block_of_content (header ++ behind_header attachment) ≡ record { header = header; attachment = attachment }
block_of_parts header None one =
    ap block_of_content (append-nil header) ∙ block_of_content-cut header (length header) (line_len-open header one) ∙ cut_at_line-open header
block_of_parts header (Some bytes) one =
    let content = header ++ 10 ∷ bytes in
    let ended : length header < length content = simp length-append (omega arith) in
    let front : take (length header) content ≡ header = take_at header (10 ∷ bytes) (length header) refl in
    let longer : content ≡ (header ++ 10 ∷ []) ++ bytes = sym (append_assoc header (10 ∷ []) bytes) in
    let rest : drop (length header + 1) content ≡ bytes = ap (drop (length header + 1)) longer ∙ drop_at (header ++ 10 ∷ []) bytes (length header + 1) (length-append header (10 ∷ [])) in
    block_of_content-cut content (length header) (line_len-line header bytes one) ∙ cut_at_line-ended content (length header) ended
    ∙ rw (front, rest) refl

-- the block of a block's content is that block
pub block_of_content-content : (block : Block) → IsFramedBlock block → block_of_content (content_of block) ≡ block
block_of_content-content block b = block_of_parts block.header block.attachment b.one_line

-- a content of a length that a frame may have makes a block
pub content_is_block : (content : List ℕ) → 0 < length content → length content ≤ MAX_CONTENT → IsFramedBlock (block_of_content content)
content_is_block content some fits =
    let same = content_of-block content in record {
      one_line = first_line content;
      not_empty = subst (λ bytes. 0 < length bytes) (sym same) some;
      fits = subst (λ bytes. length bytes ≤ MAX_CONTENT) (sym same) fits;
    }

pub length-frame : (content : List ℕ) → length (frame_of content) ≡ 4 + length content
length-frame content =
    length-append (length_bytes (length content)) content ∙ ap (λ n. n + length content) (length-length_bytes (length content))

pub short_frame : (block : Block) → IsBlock Framed block → (0 < length (spelled Framed block)) × (length (spelled Framed block) ≤ longest_block)
short_frame block b =
    let len = length-frame (content_of block) in
    let fits = b.fits in
    (omega arith, omega arith)

-- a length and so many bytes behind it

pub whole_frame : (text : List ℕ) (len : ℕ) → text ≡ length_bytes len ++ drop 4 text → 0 < len → len ≤ MAX_CONTENT → 4 + len ≤ length text → IsFirst Framed text (framed_block text len) (4 + len)
whole_frame text len begins some fits whole =
    let content = take len (drop 4 text) in
    let content_len : length content ≡ len = length-take-le len (drop 4 text) (omega (arith, length-drop 4 text)) in
    let same = content_of-block content in
    let frame_is : spelled Framed (block_of_content content) ≡ length_bytes len ++ content =
    ap frame_of same ∙ ap (λ n. length_bytes n ++ content) content_len in
    let cut : text ≡ (length_bytes len ++ content) ++ drop len (drop 4 text) =
    begins ∙ ap (λ t. length_bytes len ++ t) (sym (take-append-drop len (drop 4 text))) ∙ sym (append_assoc (length_bytes len) content (drop len (drop 4 text))) in
    let count : length (length_bytes len ++ content) ≡ 4 + len =
    length-append (length_bytes len) content ∙ omega (arith, length-length_bytes len) in
    let rest : drop len (drop 4 text) ≡ drop (4 + len) text =
    sym (ap (drop (4 + len)) cut ∙ drop_at (length_bytes len ++ content) (drop len (drop 4 text)) (4 + len) count) in record {
      is_block = content_is_block content (omega arith) (omega arith);
      cut = cut ∙ ap (λ t. (length_bytes len ++ content) ++ t) rest ∙ ap (λ t. t ++ drop (4 + len) text) (sym frame_is);
      count_is = ap length frame_is ∙ count;
    }

-- the first block

framed_at : ℕ → List ℕ → Option Block
framed_at len text = cond (has_frame len text) (Some (framed_block text len)) None

first_block-framed_at : (text : List ℕ) (len : ℕ) → announced text ≡ len → first_block Framed text ≡ framed_at len text
unfolding first_block framed_at
first_block-framed_at text len e = ap (λ n. framed_at n text) e

all_of : (a b c d : Bool) → a && b && c && d ≡ true → (a ≡ true) × (b ≡ true) × (c ≡ true) × (d ≡ true)
all_of true true true true e = (refl, refl, refl, refl)
all_of true true true false e = absurd (cc)
all_of true true false d e = absurd (cc)
all_of true false c d e = absurd (cc)
all_of false b c d e = absurd (cc)

fitting : (a b : ℕ) → leb a b ≡ true → a ≤ b
fitting a b e = grind (arith, nat_tests)

smaller : (a b : ℕ) → ltb a b ≡ true → a < b
smaller a b e = grind (arith, nat_tests)

-- a text that begins with a length and has so many bytes behind it begins with their block
framed_at-whole : (len : ℕ) (text more : List ℕ) → text ≡ length_bytes len ++ more → 0 < len → len ≤ MAX_CONTENT → 4 + len ≤ length text → framed_at len text ≡ Some (framed_block text len)
unfolding framed_at
framed_at-whole len text more begins some fits whole =
    let starts : starts_with nat_eq text (length_bytes len) ≡ true = (starts_is Decides-eqb text (length_bytes len) (starts_with nat_eq text (length_bytes len)) refl).1 more begins in
    rw (starts, below 0 len some, up_to len MAX_CONTENT fits, up_to (4 + len) (length text) whole) refl

pub first_block-frame : (block : Block) (more : List ℕ) → IsBlock Framed block → first_block Framed (spelled Framed block ++ more) ≡ Some block
first_block-frame block more b =
    let content = content_of block in
    let len = length content in
    let text = spelled Framed block ++ more in
    let begins : text ≡ length_bytes len ++ (content ++ more) = append_assoc (length_bytes len) content more in
    let fits = b.fits in
    let says : announced text ≡ len = ap announced begins ∙ announced-length_bytes len (content ++ more) (omega arith) in
    let rest : drop 4 text ≡ content ++ more = ap (drop 4) begins ∙ drop_at (length_bytes len) (content ++ more) 4 (length-length_bytes len) in
    let found : take len (drop 4 text) ≡ content = ap (take len) rest ∙ take_at content more len refl in
    let whole : 4 + len ≤ length text = omega (arith, length-append (spelled Framed block) more, length-frame content) in
    first_block-framed_at text len says
    ∙ framed_at-whole len text (content ++ more) begins b.not_empty b.fits whole
    ∙ ap Some (ap block_of_content found ∙ block_of_content-content block b)

none_some : (block : Block) → None ≡ Some block → ⊥
none_some block e = absurd (cc)

chosen : (c : Bool) (x : Option Block) (block : Block) → cond c x None ≡ Some block → (c ≡ true) × (x ≡ Some block)
chosen true x block e = (refl, e)
chosen false x block e = absurd (none_some block e)

some_same : (x y : Block) → Some x ≡ Some y → x ≡ y
some_same x y e = cc

pub begins_with_frame : (text : List ℕ) (block : Block) → first_block Framed text ≡ Some block → IsBlock Framed block × (text ≡ spelled Framed block ++ drop (length (spelled Framed block)) text)
unfolding framed_at
begins_with_frame text block e =
    let len = announced text in
    let (test, made) = chosen (has_frame len text) (Some (framed_block text len)) block (sym (first_block-framed_at text len refl) ∙ e) in
    let (starts, some, fits, whole) = all_of (starts_with nat_eq text (length_bytes len)) (ltb 0 len) (leb len MAX_CONTENT) (leb (4 + len) (length text)) test in
    let begins : text ≡ length_bytes len ++ drop 4 text =
    (starts_is Decides-eqb text (length_bytes len) (starts_with nat_eq text (length_bytes len)) refl).0 starts
    ∙ ap (λ n. length_bytes len ++ drop n text) (length-length_bytes len) in
    let first = whole_frame text len begins (smaller 0 len some) (fitting len MAX_CONTENT fits) (fitting (4 + len) (length text) whole) in
    let same : framed_block text len ≡ block = some_same (framed_block text len) block made in
    let whole_cut : text ≡ spelled Framed (framed_block text len) ++ drop (length (spelled Framed (framed_block text len))) text =
    first.cut ∙ ap (λ n. spelled Framed (framed_block text len) ++ drop n text) (sym first.count_is) in
    subst (λ b. IsBlock Framed b × (text ≡ spelled Framed b ++ drop (length (spelled Framed b)) text)) same (first.is_block, whole_cut)

-- what can go on to a frame

-- fewer than four bytes, of which some length is the beginning
pub open_length : (text : List ℕ) → length text < 4 → HasBytes text → announced text ≤ MAX_CONTENT → IsPartial Framed text
open_length text short small fits =
    elim (cases_lt 0 (announced text)) [
      | inl some ↦ open_length_of text 0 short small (lit< tt) (omega arith) (omega arith)
      | inr none ↦ open_length_of text 1 short small (lit< tt) (omega arith) (omega arith)
    ]
  where
    open_length_of : (text : List ℕ) (last : ℕ) → length text < 4 → HasBytes text → last < 256 → 0 < announced text + last → announced text + last ≤ MAX_CONTENT → IsPartial Framed text
    open_length_of text last short small is_byte some fits =
        let len = announced text + last in
        let goes = short_goes_on text last short small is_byte in
        let content = replicate len 0 in
        let content_len : length content ≡ len = length-replicate len 0 in
        let same = content_of-block content in record {
          block = block_of_content content;
          more = goes.more ++ content;
          is_block = content_is_block content (omega arith) (omega arith);
          cut = ap frame_of same ∙ ap (λ n. length_bytes n ++ content) content_len ∙ ap (λ t. t ++ content) goes.cut ∙ append_assoc text goes.more content;
          proper = let more_some = goes.some in simp length-append (omega arith);
        }

-- a length, and fewer bytes behind it
pub open_frame : (text : List ℕ) → 4 ≤ length text → HasBytes text → 0 < announced text → announced text ≤ MAX_CONTENT → length text < 4 + announced text → IsPartial Framed text
open_frame text whole small some fits less =
    let len = announced text in
    let got = drop 4 text in
    let got_len : length got + 4 ≡ length text = omega (arith, length-drop 4 text) in
    let missing = replicate (len - length got) 0 in
    let missing_len : length missing ≡ len - length got = length-replicate (len - length got) 0 in
    let content = got ++ missing in
    let content_len : length content ≡ len = length-append got missing ∙ omega arith in
    let same = content_of-block content in record {
      block = block_of_content content;
      more = missing;
      is_block = content_is_block content (omega arith) (omega arith);
      cut = ap frame_of same ∙ ap (λ n. length_bytes n ++ content) content_len ∙ sym (append_assoc (length_bytes len) got missing) ∙ ap (λ t. t ++ missing) (sym (begins_with_length text whole small));
      proper = omega arith;
    }

-- what is bad: no frame, whatever follows it, is the text with something behind it

bad_from : (text : List ℕ) → ((block : Block) (behind more : List ℕ) → IsBlock Framed block → spelled Framed block ++ behind ≡ text ++ more → ⊥) → IsBad Framed text
bad_from text apart = record {
  not_partial = λ p. apart p.block [] p.more p.is_block (append-nil (spelled Framed p.block) ∙ p.cut);
  no_block = λ begins. apart begins.block begins.more [] begins.is_block (sym begins.cut ∙ sym (append-nil text));
}

announced_of : (block : Block) (behind text more : List ℕ) → IsBlock Framed block → spelled Framed block ++ behind ≡ text ++ more → announced (text ++ more) ≡ length (content_of block)
announced_of block behind text more b e =
    let content = content_of block in
    let fits = b.fits in
    ap announced (sym e ∙ append_assoc (length_bytes (length content)) content behind) ∙ announced-length_bytes (length content) (content ++ behind) (omega arith)

pub long_frame : (text : List ℕ) → MAX_CONTENT < announced text → IsBad Framed text
long_frame text long = bad_from text (λ block behind more b e.
    let says = announced_of block behind text more b e in
    let grows = announced_grows text more in
    let fits = b.fits in
    absurd (omega arith))

pub empty_frame : (text : List ℕ) → 4 ≤ length text → announced text ≡ 0 → IsBad Framed text
empty_frame text whole empty = bad_from text (λ block behind more b e.
    let says = announced_of block behind text more b e in
    let stays = announced_stays text more whole in
    let some = b.not_empty in
    absurd (omega arith))

no_length : (text : List ℕ) → HasNoByte text → IsBad Framed text
no_length text none = bad_from text (λ block behind more b e.
    let content = content_of block in
    let cut : text ++ more ≡ length_bytes (length content) ++ (content ++ behind) = sym e ∙ append_assoc (length_bytes (length content)) content behind in
    let small = subst (λ t. get_or t none.at 0 < 256) (sym cut) (length_bytes_small (length content) (content ++ behind) none.at none.within) in
    let grows = grows_at text more none.at in
    let large = none.large in
    absurd (omega arith))

-- a text with no first block can go on to a frame, or is bad

length_or_bad : (text : List ℕ) → HasBytes text → announced text ≤ MAX_CONTENT → 4 ≤ length text → first_block Framed text ≡ None → IsPartial Framed text ⊎ IsBad Framed text
length_or_bad text small fits whole none =
    elim (cases_lt 0 (announced text)) [
      | inl some ↦ elim (cases_lt (length text) (4 + announced text)) [
        | inl less ↦ inl (open_frame text whole small some fits less)
        | inr full ↦
            let found = first_block-framed_at text (announced text) refl ∙ framed_at-whole (announced text) text (drop 4 text) (begins_with_length text whole small) some fits full in
            absurd (none_some (framed_block text (announced text)) (sym none ∙ found))
      ]
      | inr empty ↦ inr (empty_frame text whole (omega arith))
    ]

pub frame_partial_or_bad : (text : List ℕ) → first_block Framed text ≡ None → IsPartial Framed text ⊎ IsBad Framed text
frame_partial_or_bad text none =
    elim (bytes_or_none text) [
      | inl small ↦ elim (cases_lt MAX_CONTENT (announced text)) [
        | inl long ↦ inr (long_frame text long)
        | inr fits ↦ elim (cases_lt (length text) 4) [
          | inl short ↦ inl (open_length text short small fits)
          | inr whole ↦ length_or_bad text small fits whole none
        ]
      ]
      | inr off ↦ inr (no_length text off)
    ]

pub nothing_is_partial_frame : IsPartial Framed []
unfolding announced
nothing_is_partial_frame = open_length [] (lit< tt) (record { first = lit< tt; second = lit< tt; third = lit< tt; fourth = lit< tt }) (omega arith)
