use Rattle.state_save.proofs.FirstBad.{bad_version, told}
use Rattle.state_save.proofs.reading.read_short.Goals as goal

pub returns-in-None-clause-refused : goal.returns-in-None-clause-refused
returns-in-None-clause-refused c = λ line is. told c.args.text.now 1 line (bad_version c.args.text.now c.in-None.ensures.none) is
