use Rattle.session_text.proofs.PlainBlocks.{block_of_call}
use Rattle.session_text.proofs.laws.blocks_of_calls_are_plain.Goals as goal

pub returns : goal.returns
returns c = block_of_call
