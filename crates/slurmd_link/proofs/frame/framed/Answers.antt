use Rattle.std.proofs.Common.{◌++◌, ap, ◌∙◌}
use Rattle.block_frame.specs.Frames.{length_bytes}
use Rattle.slurmd_link.proofs.frame.framed.Goals as goal

pub returns : goal.returns
unfolding length_bytes
returns c =
    c.in_ok-extend_from_slice-2.ensures.items
    ∙ ap (λ t. t ++ c.args.content.now) (c.in_ok-extend_from_slice.ensures.items
    ∙ ap (λ t. t ++ c.to_be_bytes.result) c.in_ok-frame.ensures.items
    ∙ c.to_be_bytes.ensures)
