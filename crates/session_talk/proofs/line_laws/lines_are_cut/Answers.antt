use Rattle.session_talk.proofs.LinesOf.{first_of}
use Rattle.session_talk.proofs.line_laws.lines_are_cut.Goals as goal

pub returns : goal.returns
returns c = first_of
