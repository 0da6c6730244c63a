use Rattle.ctl_server.proofs.Meeting.{book_of}
use Rattle.ctl_server.proofs.closing.take_book.Goals as goal

pub returns : goal.returns
returns g c = book_of c.args.pass c.enter-held.result.turn c.enter-held.result.value c.finish.result c.enter-held.ensures
    c.number.ensures.known c.finish.ensures
