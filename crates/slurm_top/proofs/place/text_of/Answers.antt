use Rattle.slurm_top.proofs.Names.{word_is_text}
use Rattle.slurm_top.proofs.place.text_of.Goals as goal

pub unreachable-requires : goal.unreachable-requires
unreachable-requires c = absurd (c.in-Err.ensures.cases.0 (word_is_text c.args.word.now c.requires))
