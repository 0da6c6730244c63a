use Rattle.std.proofs.Common.{subst, sym}
use Rattle.block_frame.specs.Looking.{IsScanned}
use Rattle.block_frame.proofs.Going.{scanned_grows}
use Rattle.block_frame.proofs.blocks.Blocks.feed.Goals as goal

pub invariant_of-self-2 : goal.invariant_of-self-2
invariant_of-self-2 c =
    let inside = c.self.inside in
    subst (λ t. IsScanned t inside.scan) (sym c.in_ok-extend_from_slice.ensures.ok) (scanned_grows inside.pending.items c.args.piece.now inside.scan c.self.invariant)
