use Rattle.std.proofs.Common.{◌+◌}
use Rattle.block_frame.specs.declared.form.Form.TheVariants.{Plain}
use Rattle.block_frame.specs.Looking.{line_block, attached_block}
use Rattle.block_frame.proofs.Going.{first_begins, on_err}
use Rattle.block_frame.proofs.blocks.Blocks.next_plain.Goals as goal

pub returns-in_err-block-in-Line-clause-err : goal.returns-in_err-block-in-Line-clause-err
returns-in_err-block-in-Line-clause-err c =
    let pending = c.args.self.now.pending in
    on_err c.from_residual.result (c.look_on.ensures.stays, rw c.requires (first_begins Plain pending (line_block pending c.in-Line.line) (c.in-Line.line + 1) c.in-Line.ensures.sight.0))

pub returns-in_err-block-in-Attached-clause-err : goal.returns-in_err-block-in-Attached-clause-err
returns-in_err-block-in-Attached-clause-err c =
    let pending = c.args.self.now.pending in
    let header = c.in-Attached.header in
    let end = c.in-Attached.end in
    on_err c.from_residual-in_err-block-in-Attached.result (c.look_on.ensures.stays, rw c.requires (first_begins Plain pending (attached_block pending header end) (end + 2) c.in-Attached.ensures.sight.0))
