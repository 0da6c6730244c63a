use Rattle.state_save.proofs.FirstBad.{bad_end, good_end, head_alone, only_one, read_to, told}
use Rattle.state_save.proofs.reading.read_behind_head.Goals as goal

pub returns-in-Some-clause-refused : goal.returns-in-Some-clause-refused
returns-in-Some-clause-refused c = λ line is.
    let read = read_to c.args.text.now c.args.behind.now c.in_ok-saved.end.now c.args.head c.in_ok-saved.saved c.requires.cut c.requires.fit
    c.in_ok-saved.ensures.head c.in_ok-saved.ensures.read in
    told c.args.text.now c.in-Some.line line
    (bad_end c.args.text.now c.in_ok-saved.saved c.in_ok-saved.end.now read c.in-Some.line c.in-Some.ensures.bad) is

pub returns-in-None-clause-value : goal.returns-in-None-clause-value
returns-in-None-clause-value c =
    let read = read_to c.args.text.now c.args.behind.now c.in_ok-saved.end.now c.args.head c.in_ok-saved.saved c.requires.cut c.requires.fit
    c.in_ok-saved.ensures.head c.in_ok-saved.ensures.read in
    good_end c.args.text.now c.in_ok-saved.saved c.in_ok-saved.end.now read c.in-None.ensures.good

pub returns-in-None-clause-only : goal.returns-in-None-clause-only
returns-in-None-clause-only c = λ other is same.
    let read = read_to c.args.text.now c.args.behind.now c.in_ok-saved.end.now c.args.head c.in_ok-saved.saved c.requires.cut c.requires.fit
    c.in_ok-saved.ensures.head c.in_ok-saved.ensures.read in
    only_one c.args.text.now c.in_ok-saved.saved c.in_ok-saved.end.now read c.in-None.ensures.good
    (head_alone c.args.head c.in_ok-saved.saved c.in_ok-saved.ensures.head c.requires.alone) other is same
