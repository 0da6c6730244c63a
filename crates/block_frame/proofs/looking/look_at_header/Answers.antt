use Rattle.std.proofs.Common.{◌≡◌, ◌+◌, ◌<◌, length, take, true, false, ap, sym, ◌∙◌, subst, arith}
use Rattle.block_frame.specs.declared.form.Form.TheVariants.{Plain}
use Rattle.block_frame.specs.Grammar.{is_marked}
use Rattle.block_frame.specs.Looking.{IsUnderWay, IsFirst, line_block}
use Rattle.block_frame.proofs.FirstLines.{line_len}
use Rattle.block_frame.proofs.Plain.{long_line, empty_line, open_line}
use Rattle.block_frame.proofs.Going.{line_sight, begins_attachment}
use Rattle.block_frame.proofs.looking.look_at_header.Goals as goal

pub returns-then-end-gt-MAX_HEADER_LINE-clause-sight : goal.returns-then-end-gt-MAX_HEADER_LINE-clause-sight
returns-then-end-gt-MAX_HEADER_LINE-clause-sight c =
    let end = c.line_len-end.ensures.len in
    long_line c.args.text.now (omega arith)

pub returns-then-end-text-clause-sight : goal.returns-then-end-text-clause-sight
returns-then-end-text-clause-sight c =
    let end = c.line_len-end.ensures.len in
    open_line c.args.text.now (omega arith) (omega arith)

pub returns-then-end-eq0-clause-sight : goal.returns-then-end-eq0-clause-sight
returns-then-end-eq0-clause-sight c =
    let end = c.line_len-end.ensures.len in
    let within = c.line_len-end.ensures.within in
    empty_line c.args.text.now (omega arith) (omega arith)

pub returns-then-not-is_marked-clause-sight : goal.returns-then-not-is_marked-clause-sight
returns-then-not-is_marked-clause-sight c =
    let text = c.args.text.now in
    let end = c.line_len-end.ensures.len in
    let within = c.line_len-end.ensures.within in
    let ended : line_len text < length text = omega arith in
    let unmarked : is_marked (take c.line_len-end.result text) ≡ false = ap is_marked (sym c.split_at.ensures.front) ∙ sym c.is_marked.ensures ∙ c.if-not-is_marked.true in
    (subst (λ n. IsFirst Plain text (line_block text n) (n + 1)) (sym end) (line_sight text (omega arith) (omega arith) ended (subst (λ n. is_marked (take n text) ≡ false) end unmarked)), omega arith)

pub look_at_lines-requires : goal.look_at_lines-requires
look_at_lines-requires c =
    let text = c.args.text.now in
    let end = c.line_len-end.ensures.len in
    let within = c.line_len-end.ensures.within in
    let ended : line_len text < length text = omega arith in
    let marked : is_marked (take c.line_len-end.result text) ≡ true = ap is_marked (sym c.split_at.ensures.front) ∙ sym c.is_marked.ensures ∙ c.if-not-is_marked.false in
    subst (λ n. IsUnderWay text (record { header = n; at = n + 1; size = 0; searched = 0 })) (sym end) (begins_attachment text (omega arith) (omega arith) ended (subst (λ n. is_marked (take n text) ≡ true) end marked))
