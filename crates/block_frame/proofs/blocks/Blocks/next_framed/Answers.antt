use Rattle.std.proofs.Common.{◌≡◌, ◌+◌, ◌∙◌, ap, refl, subst}
use Rattle.block_frame.specs.declared.form.Form.TheVariants.{Framed}
use Rattle.block_frame.specs.Frames.{framed_block}
use Rattle.block_frame.specs.Looking.{IsFirst}
use Rattle.block_frame.proofs.Going.{first_begins, on_err}
use Rattle.block_frame.proofs.blocks.Blocks.next_framed.Goals as goal

pub returns-in_err-block-in-Whole-clause-err : goal.returns-in_err-block-in-Whole-clause-err
returns-in_err-block-in-Whole-clause-err c =
    let pending = c.args.self.now.pending in
    let len = c.in-Whole.len in
    let same : c.as_slice.result.now ≡ pending = c.as_slice.ensures ∙ ap (λ s. s.pending) c.self.view_is in
    let first = subst (λ t. IsFirst Framed t (framed_block t len) (4 + len)) same c.in-Whole.ensures.0 in
    on_err c.from_residual.result (refl, rw c.requires (first_begins Framed pending (framed_block pending len) (4 + len) first))
