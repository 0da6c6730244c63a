use Rattle.std.proofs.Common.{arith}
use Rattle.session_talk.proofs.Feeds.{len_found, len_open, len_fits}
use Rattle.session_talk.proofs.lines.line_len.Goals as goal

pub returns-in-Some-clause-value : goal.returns-in-Some-clause-value
returns-in-Some-clause-value c = len_found c.args.text.now c.in-Some.place c.in-Some.ensures

pub returns-in-Some-clause-bound : goal.returns-in-Some-clause-bound
returns-in-Some-clause-bound c =
    omega (arith, len_found c.args.text.now c.in-Some.place c.in-Some.ensures, len_fits c.args.text.now)

pub returns-in-None-clause-value : goal.returns-in-None-clause-value
returns-in-None-clause-value c = len_open c.args.text.now c.in-None.ensures
