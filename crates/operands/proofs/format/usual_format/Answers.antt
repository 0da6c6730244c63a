use Rattle.std.proofs.Common.{◌∙◌, ap, sym}
use Rattle.operands.specs.Format.{format_in, or_nothing, usual}
use Rattle.operands.proofs.FormatLemmas.{usual-good}
use Rattle.operands.proofs.format.usual_format.Goals as goal

pub unwrap-requires : goal.unwrap-requires
unwrap-requires c =
    rw (c.in_ok-read_pieces.ensures ∙ ap format_in c.usual_text.ensures) (usual-good c.args.starts)

pub returns : goal.returns
unfolding usual
returns c =
    sym (ap or_nothing (sym (c.in_ok-read_pieces.ensures ∙ ap format_in c.usual_text.ensures) ∙ c.unwrap.ensures))
