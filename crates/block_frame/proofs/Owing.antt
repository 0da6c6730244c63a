-- What each form owes. All else that is said of blocks follows from it.
use Rattle.std.proofs.Common.{◌≡◌, ℕ, ◌<◌, ◌≤◌, List, [], ◌++◌, length, drop, Some, None, ◌⊎◌, arith}
use Rattle.block_frame.specs.declared.block.Block.{Block}
use Rattle.block_frame.specs.declared.form.Form.{Form}
use Rattle.block_frame.specs.declared.form.Form.TheVariants.{Plain, Framed}
use Rattle.block_frame.specs.Grammar.{IsBlock, IsPartial, IsBad, spelled, first_block, longest_block}
use Rattle.block_frame.proofs.Plain.{first_block-spelled, begins_with_first, partial_or_bad, line_is_partial, short_block}
use Rattle.block_frame.proofs.Frames.{first_block-frame, begins_with_frame, frame_partial_or_bad, short_frame, nothing_is_partial_frame}

pub record Owes (form : Form) : Type 0 where
  -- a block at the front of a text is found, whatever follows; so no block is a proper prefix of another
  pub first : (block : Block) (more : List ℕ) → IsBlock form block → first_block form (spelled form block ++ more) ≡ Some block
  -- what is found stands there
  pub begins : (text : List ℕ) (block : Block) → first_block form text ≡ Some block
      → IsBlock form block × (text ≡ spelled form block ++ drop (length (spelled form block)) text)
  -- where none is found, one can begin, or not
  pub other : (text : List ℕ) → first_block form text ≡ None → IsPartial form text ⊎ IsBad form text
  pub some : (block : Block) → IsBlock form block → 0 < length (spelled form block)
  pub short : (block : Block) → IsBlock form block → length (spelled form block) ≤ longest_block
  -- there are blocks
  pub empty : IsPartial form []

pub owes : (form : Form) → Owes form
owes Plain = record {
  first = first_block-spelled;
  begins = begins_with_first;
  other = partial_or_bad;
  some = λ block b. (short_block block b).0;
  short = λ block b. (short_block block b).1;
  empty = line_is_partial [] (λ k d l. absurd (omega arith)) (omega arith);
}
owes Framed = record {
  first = first_block-frame;
  begins = begins_with_frame;
  other = frame_partial_or_bad;
  some = λ block b. (short_frame block b).0;
  short = λ block b. (short_frame block b).1;
  empty = nothing_is_partial_frame;
}
