use Rattle.std.proofs.Common.{◌≡◌, ◌++◌, ap, sym, ◌∙◌}
use Rattle.block_frame.specs.declared.block.Next.{Next}
use Rattle.block_frame.specs.declared.block.Next.TheVariants.{Whole, NotYet, Bad}
use Rattle.block_frame.specs.Grammar.{IsBad}
use Rattle.block_frame.specs.State.{BlocksState, IsNext}
use Rattle.block_frame.proofs.Cutting.{bad_stays}
use Rattle.block_frame.proofs.laws.bad_readers_stay.Goals as goal

-- what a reader of bad bytes finds next
next_is_bad : (fed new : BlocksState) (next : Next) → IsBad fed.form fed.pending → IsNext fed next new → (next ≡ Bad fed.place) × (new ≡ fed)
next_is_bad fed new (Whole block) bad next =
    absurd (bad.no_block (record { block = block; more = new.pending; is_block = next.0; cut = next.1 }))
next_is_bad fed new NotYet bad next = absurd (bad.not_partial next.0)
next_is_bad fed new (Bad place) bad next = (ap Bad next.1, next.2)

pub returns : goal.returns
returns c = λ old read new place piece next (bad, place_is, read_is) found.
    let fed : BlocksState = record read { pending = read.pending ++ piece } in
    let stays : IsBad read.form (read.pending ++ piece) = bad_stays read.form read.pending piece (rw read_is bad) in
    let (same, rest) = next_is_bad fed new next stays found in
    (same ∙ ap Bad (ap (λ s. s.place) read_is ∙ sym place_is), rest)
