use Rattle.std.proofs.Common.{◌≡◌, ◌<◌, ◌+◌, [], length, take, drop, ltb, ap, sym, ◌∙◌, refl, subst, arith}
use Rattle.std.proofs.lemmas.Bool.Decides.{nat_tests}
use Rattle.std.proofs.lemmas.List.{nil_from_length, length-take-le}
use Rattle.block_frame.specs.declared.lines.Kind.TheVariants as kind
use Rattle.block_frame.specs.Attachments.{LineStart, FirstDot, reading_at}
use Rattle.block_frame.specs.Looking.{kind_of}
use Rattle.block_frame.proofs.FirstLines.{IsOneLine, first_line}
use Rattle.block_frame.proofs.Seeing.{plain_starts, dotted_starts, line_seen, off_seen, dot_unended, fits_room}
use Rattle.block_frame.proofs.lines.see_line.Goals as goal

pub returns-then-is_empty : goal.returns-then-is_empty
unfolding reading_at
returns-then-is_empty c =
    let empty : c.args.text.now ≡ [] = nil_from_length c.args.text.now (grind (arith, nat_tests)) in
    (LineStart, [], ap (reading_at LineStart) empty, fits_room 0 c.args.room (omega arith), omega arith)

pub returns-in-Off : goal.returns-in-Off
returns-in-Off c =
    let is_kind : kind_of (take c.line_len-len.result c.args.text.now) ≡ kind.Off = ap kind_of (sym c.split_at.ensures.front) ∙ sym c.kind_of.ensures ∙ c.in-Off.is in
    let len = c.line_len-len.ensures.len in
    (off_seen c.args.text.now c.line_len-len.result c.args.room len is_kind, omega (arith, len))

pub returns-in-Dot-2 : goal.returns-in-Dot-2
returns-in-Dot-2 c =
    let is_kind : kind_of (take c.line_len-len.result c.args.text.now) ≡ kind.Dot = ap kind_of (sym c.split_at.ensures.front) ∙ sym c.kind_of.ensures ∙ c.in-Dot.is in
    let len = c.line_len-len.ensures.len in
    (FirstDot, [], dot_unended c.args.text.now c.line_len-len.result len is_kind c.if-is_ended.false, fits_room 0 c.args.room (omega arith), omega (arith, len))

pub returns-in-Dotted : goal.returns-in-Dotted
returns-in-Dotted c =
    let text = c.args.text.now in
    let len = c.line_len-len.result in
    let is_kind : kind_of (take len text) ≡ kind.Dotted = ap kind_of (sym c.split_at.ensures.front) ∙ sym c.kind_of.ensures ∙ c.in-Dotted.is in
    let one : IsOneLine (take len text) = subst (λ n. IsOneLine (take n text)) (sym c.line_len-len.ensures.len) (first_line text) in
    let (starts, size) = dotted_starts (take len text) is_kind one in
    let taken = length-take-le len text c.line_len-len.ensures.within in
    let some : 0 < length text = grind (arith, nat_tests) in
    rw c.sized.ensures (line_seen text (drop 1 (take len text)) len len c.args.room (ltb len (length text)) c.line_len-len.ensures.len refl some starts (omega arith))

pub returns-in-Plain : goal.returns-in-Plain
returns-in-Plain c =
    let text = c.args.text.now in
    let len = c.line_len-len.result in
    let is_kind : kind_of (take len text) ≡ kind.Plain = ap kind_of (sym c.split_at.ensures.front) ∙ sym c.kind_of.ensures ∙ c.in-Plain.is in
    let one : IsOneLine (take len text) = subst (λ n. IsOneLine (take n text)) (sym c.line_len-len.ensures.len) (first_line text) in
    let taken = length-take-le len text c.line_len-len.ensures.within in
    let some : 0 < length text = grind (arith, nat_tests) in
    rw c.sized-in-Plain.ensures (line_seen text (take len text) len (len + 1) c.args.room (ltb len (length text)) c.line_len-len.ensures.len refl some (plain_starts (take len text) is_kind one) (omega arith))
