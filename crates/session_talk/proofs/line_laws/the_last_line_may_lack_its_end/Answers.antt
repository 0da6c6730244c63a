use Rattle.session_talk.proofs.LinesOf.{last_of}
use Rattle.session_talk.proofs.line_laws.the_last_line_may_lack_its_end.Goals as goal

pub returns : goal.returns
returns c = last_of
