-- Lines of blanks that are filled in, piece by piece.
use Rattle.std.proofs.Common.{◌≡◌, ◌∙◌, ℕ, ◌+◌, ◌-◌, ◌<◌, ◌≤◌, Bool, true, false, List, [], ◌∷◌, ◌++◌, Some, None, length, take, drop, get_or, flat_map, append_assoc, append-nil, arith, refl, ap, sym}
use Rattle.std.specs.Prelude.{min, replicate}
use Rattle.std.proofs.lemmas.List.{length-append, length-replicate, length-take, take_all, drop_all, take_at, drop_at, take_more, drop_more, drop-drop, take-append-drop, flat_map_more, take-replicate, drop-replicate, take_min, length-drop}
use borrow.Rule.Slice.PartMut.{put_mid}
use Rattle.request_data.specs.declared.query.JobColumn.{JobColumn}
use Rattle.request_data.specs.declared.query.Piece.{Piece}
use Rattle.request_data.specs.declared.query.Piece.TheVariants.{Plain, Column}
use Rattle.table_texts.specs.Field.{field}
use Rattle.table_texts.specs.Squeue.{blank, is_fixed, piece_text}

-- a field has its width
pub length-field : (width : ℕ) (dot : Bool) (text : List ℕ) → length (field width dot text) ≡ width
unfolding field
length-field width true text =
    length-append (replicate (width - length (take width text)) 32) (take width text)
    ∙ omega (arith, length-replicate {A = ℕ} (width - length (take width text)) 32, length-take width text)
length-field width false text =
    length-append (take width text) (replicate (width - length (take width text)) 32)
    ∙ omega (arith, length-replicate {A = ℕ} (width - length (take width text)) 32, length-take width text)

-- a field that tells nothing is blanks
pub field-none : (width : ℕ) (dot : Bool) → field width dot [] ≡ replicate width 32
unfolding field
field-none width true =
    let none : take width [] ≡ [] = take_all {A = ℕ} width [] (omega arith) in
    let all : width - 0 ≡ width = omega arith in
    ap (λ (text : List ℕ). replicate (width - length text) 32 ++ text) none ∙ append-nil (replicate (width - 0) 32)
    ∙ ap (λ count. replicate count 32) all
field-none width false =
    let none : take width [] ≡ [] = take_all {A = ℕ} width [] (omega arith) in
    let all : width - 0 ≡ width = omega arith in
    ap (λ (text : List ℕ). text ++ replicate (width - length text) 32) none ∙ ap (λ count. replicate count 32) all

-- the piece takes as many bytes whatever the columns tell
pub length-piece : (tells : JobColumn → List ℕ) (piece : Piece) → is_fixed piece ≡ true
    → length (piece_text tells piece) ≡ length (blank piece)
length-piece tells (Plain byte) fixed = refl
length-piece tells (Column column None dot) fixed = absurd (let never = fixed in cc)
length-piece tells (Column column (Some width) dot) fixed =
    length-field width dot (tells column) ∙ sym (length-field width dot [])

-- a list with what stands at a place
pub same-there : (line text : List ℕ) (at : ℕ) → take (length text) (drop at line) ≡ text
    → line ≡ take at line ++ text ++ drop (at + length text) line
same-there line text at there =
    sym (append_assoc (take at line) text (drop (at + length text) line)
    ∙ ap (λ rest. take at line ++ rest) (ap (λ front. front ++ drop (at + length text) line) (sym there)
    ∙ ap (λ rest. take (length text) (drop at line) ++ rest) (sym (drop-drop (length text) at line))
    ∙ take-append-drop (length text) (drop at line)) ∙ take-append-drop at line)

-- a line whose first pieces are filled in
pub record IsFilled (tells : JobColumn → List ℕ) (pieces : List Piece) (count : ℕ) (line : List ℕ) (at : ℕ) : Type 0 where
  pub text : line ≡ flat_map (piece_text tells) (take count pieces) ++ flat_map blank (drop count pieces)
  pub place : at ≡ length (flat_map (piece_text tells) (take count pieces))

-- the next piece is still blank
pub blank-there : (tells : JobColumn → List ℕ) (pieces : List Piece) (count : ℕ) (line : List ℕ) (at : ℕ) (piece : Piece)
    → count < length pieces → piece ≡ get_or pieces count piece → IsFilled tells pieces count line at
    → (at + length (blank piece) ≤ length line) × (take (length (blank piece)) (drop at line) ≡ blank piece)
blank-there tells pieces count line at piece inside is filled =
    let front = flat_map (piece_text tells) (take count pieces) in
    let rest = flat_map blank (drop (count + 1) pieces) in
    let parts : line ≡ front ++ (blank piece ++ rest) =
    filled.text ∙ ap (λ left. front ++ flat_map blank left) (drop_more pieces count piece inside)
    ∙ ap (λ next. front ++ (blank next ++ rest)) (sym is) in (
      omega (arith, ap length parts, length-append front (blank piece ++ rest), length-append (blank piece) rest, filled.place),
      rw (parts, drop_at front (blank piece ++ rest) at (sym filled.place)) (take_at (blank piece) rest (length (blank piece)) refl),
    )

-- one piece more is filled in
pub filled-more : (tells : JobColumn → List ℕ) (pieces : List Piece) (count : ℕ) (line : List ℕ) (at : ℕ) (piece : Piece)
    (next : List ℕ) (end : ℕ) → count < length pieces → piece ≡ get_or pieces count piece → is_fixed piece ≡ true
    → IsFilled tells pieces count line at → end ≡ at + length (blank piece)
    → next ≡ take at line ++ piece_text tells piece ++ drop (at + length (blank piece)) line
    → IsFilled tells pieces (count + 1) next end
filled-more tells pieces count line at piece next end inside is fixed filled ends more =
    let front = flat_map (piece_text tells) (take count pieces) in
    let rest = flat_map blank (drop (count + 1) pieces) in
    let parts : line ≡ front ++ (blank piece ++ rest) =
    filled.text ∙ ap (λ left. front ++ flat_map blank left) (drop_more pieces count piece inside)
    ∙ ap (λ next. front ++ (blank next ++ rest)) (sym is) in
    let first : take at line ≡ front = rw parts (take_at front (blank piece ++ rest) at (sym filled.place)) in
    let last : drop (at + length (blank piece)) line ≡ rest =
    sym (drop-drop (length (blank piece)) at line)
    ∙ rw (parts, drop_at front (blank piece ++ rest) at (sym filled.place)) (drop_at (blank piece) rest (length (blank piece)) refl) in
    let told : front ++ piece_text tells piece ≡ flat_map (piece_text tells) (take (count + 1) pieces) =
    flat_map_more (piece_text tells) [] (take count pieces) piece
    ∙ ap (flat_map (piece_text tells)) (ap (λ one. take count pieces ++ one ∷ []) is ∙ sym (take_more pieces count piece inside)) in
    record {
      text = more ∙ rw (first, last) (ap (λ front. front ++ rest) told);
      place = omega (arith, ends, filled.place, ap length told, length-append front (piece_text tells piece), length-piece tells piece fixed);
    }

-- what a text is cut to
cut-same : (text : List ℕ) (n width : ℕ) → n ≡ min (length text) width → take n text ≡ take width text
cut-same text n width cut =
    let least : n ≡ min width (length text) = omega (arith, cut) in
    ap (λ m. take m text) least ∙ take_min width text

-- a text that is put at the end of blanks, and one at their front
pub field-right : (blanks text new : List ℕ) (dot : Bool) (n from k : ℕ) → blanks ≡ replicate (length blanks) 32
    → n ≡ min (length text) (length blanks) → dot ≡ true → from ≡ length blanks - length (take n text)
    → new ≡ take n text → k ≡ length (take n text) → put_mid from k blanks new ≡ field (length blanks) dot text
unfolding field
field-right blanks text new dot n from k blank cut right first put count =
    let width = length blanks in
    let shown = take width text in
    let same : take n text ≡ shown = cut-same text n width cut in
    let missing : List ℕ = replicate (width - length shown) 32 in
    let front : take from blanks ≡ missing =
    ap (take from) blank ∙ take-replicate {X = ℕ} from width 32 (omega (arith, first))
    ∙ ap (λ count. replicate {A = ℕ} count 32) (first ∙ ap (λ (some : List ℕ). width - length some) same) in
    let rest : drop k (drop from blanks) ≡ [] =
    drop_all k (drop from blanks) (omega (arith, first, count, cut, length-drop from blanks, length-take n text)) in
    ap (λ some. some ++ (new ++ drop k (drop from blanks))) front
    ∙ ap (λ some. missing ++ (some ++ drop k (drop from blanks))) (put ∙ same)
    ∙ ap (λ some. missing ++ (shown ++ some)) rest ∙ ap (λ some. missing ++ some) (append-nil shown)
    ∙ ap (λ b. field width b text) (sym right)

pub field-left : (blanks text new : List ℕ) (dot : Bool) (n from k : ℕ) → blanks ≡ replicate (length blanks) 32
    → n ≡ min (length text) (length blanks) → dot ≡ false → from ≡ 0
    → new ≡ take n text → k ≡ length (take n text) → put_mid from k blanks new ≡ field (length blanks) dot text
unfolding field
field-left blanks text new dot n from k blank cut left first put count =
    let width = length blanks in
    let shown = take width text in
    let same : take n text ≡ shown = cut-same text n width cut in
    let missing : List ℕ = replicate (width - length shown) 32 in
    let front : take from blanks ≡ [] = ap (λ m. take m blanks) first in
    let rest : drop k (drop from blanks) ≡ missing =
    ap (λ m. drop k (drop m blanks)) first ∙ ap (drop k) blank ∙ drop-replicate {X = ℕ} k width 32
    ∙ ap (λ m. replicate {A = ℕ} (width - m) 32) (count ∙ ap (λ (some : List ℕ). length some) same) in
    ap (λ some. some ++ (new ++ drop k (drop from blanks))) front
    ∙ ap (λ some. some ++ drop k (drop from blanks)) (put ∙ same)
    ∙ ap (λ some. shown ++ some) rest ∙ ap (λ b. field width b text) (sym left)

-- a column with a width: its size, its blanks, and what is put over them
pub piece-size : (piece : Piece) (column : JobColumn) (size : ℕ) (dot : Bool) → piece ≡ Column column (Some size) dot
    → length (blank piece) ≡ size
piece-size piece column size dot is = ap (λ piece. length (blank piece)) is ∙ length-field size dot []

pub piece-blank : (piece : Piece) (column : JobColumn) (size : ℕ) (dot : Bool) (line : List ℕ) (at k : ℕ)
    → piece ≡ Column column (Some size) dot → k ≡ size → take (length (blank piece)) (drop at line) ≡ blank piece
    → take k (drop at line) ≡ replicate size 32
piece-blank piece column size dot line at k is count there =
    ap (λ n. take n (drop at line)) (count ∙ sym (piece-size piece column size dot is))
    ∙ there ∙ ap blank is ∙ field-none size dot

pub piece-put : (tells : JobColumn → List ℕ) (piece : Piece) (column : JobColumn) (size : ℕ) (dot : Bool)
    (line new : List ℕ) (at k : ℕ) → piece ≡ Column column (Some size) dot → k ≡ size
    → take (length (blank piece)) (drop at line) ≡ blank piece
    → new ≡ field (length (take k (drop at line))) dot (tells column)
    → put_mid at k line new ≡ take at line ++ piece_text tells piece ++ drop (at + length (blank piece)) line
piece-put tells piece column size dot line new at k is count there put =
    let front = take at line in
    let told = piece_text tells piece in
    let whole : length (take k (drop at line)) ≡ size =
    ap (λ (some : List ℕ). length some) (piece-blank piece column size dot line at k is count there)
    ∙ length-replicate {A = ℕ} size 32 in
    let shown : new ≡ told =
    put ∙ ap (λ n. field n dot (tells column)) whole ∙ ap (piece_text tells) (sym is) in
    let rest : drop k (drop at line) ≡ drop (at + length (blank piece)) line =
    drop-drop k at line
    ∙ ap (λ n. drop (at + n) line) (count ∙ sym (piece-size piece column size dot is)) in
    ap (λ some. front ++ (some ++ drop k (drop at line))) shown ∙ ap (λ some. front ++ (told ++ some)) rest
    ∙ sym (append_assoc front told (drop (at + length (blank piece)) line))
