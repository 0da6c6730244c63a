use Rattle.std.proofs.Common.{sym, ◌∙◌}
use Rattle.session_text.proofs.PlainBlocks.{plain_block}
use Rattle.session_text.proofs.blocks.block_at.Goals as goal

pub returns-then-branch-clause-plain : goal.returns-then-branch-clause-plain
returns-then-branch-clause-plain c = plain_block c.in_ok-block.block (sym c.in_ok-is_plain.ensures ∙ c.if-branch.true)
