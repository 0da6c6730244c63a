use Rattle.std.proofs.Common.{◌+◌, ◌≤◌, length, sym, subst, arith}
use Rattle.block_frame.specs.declared.form.Form.TheVariants.{Framed}
use Rattle.block_frame.specs.Frames.{announced, framed_block}
use Rattle.block_frame.specs.Looking.{IsFirst}
use Rattle.block_frame.proofs.Lengths.{bytes_of, begins_with_length}
use Rattle.block_frame.proofs.Frames.{whole_frame, open_length, open_frame, long_frame, empty_frame}
use Rattle.block_frame.proofs.framed.look_at_frame.Goals as goal

pub returns-then-len-gt-MAX_CONTENT : goal.returns-then-len-gt-MAX_CONTENT
returns-then-len-gt-MAX_CONTENT c =
    let len = c.announced-len.ensures.value in
    long_frame c.args.text.now (omega arith)

pub returns-then-text-lt-LENGTH_SIZE : goal.returns-then-text-lt-LENGTH_SIZE
returns-then-text-lt-LENGTH_SIZE c =
    let text = c.args.text.now in
    let len = c.announced-len.ensures.value in
    let small = bytes_of text c.type_inv.text in
    open_length text (omega arith) small (omega arith)

pub returns-then-len-eq0 : goal.returns-then-len-eq0
returns-then-len-eq0 c =
    let len = c.announced-len.ensures.value in
    empty_frame c.args.text.now (omega arith) (omega arith)

pub returns-then-text-len : goal.returns-then-text-len
returns-then-text-len c =
    let text = c.args.text.now in
    let len = c.announced-len.ensures.value in
    let small = bytes_of text c.type_inv.text in
    open_frame text (omega arith) small (omega arith) (omega arith) (omega arith)

pub returns : goal.returns
returns c =
    let text = c.args.text.now in
    let len = c.announced-len.ensures.value in
    let small = bytes_of text c.type_inv.text in
    let whole : 4 + announced text ≤ length text = omega arith in
    (subst (λ n. IsFirst Framed text (framed_block text n) (4 + n)) (sym len) (whole_frame text (announced text) (begins_with_length text (omega arith) small) (omega arith) (omega arith) whole), omega arith)
