use Rattle.sacct_book.specs.Times.{times_of}
use Rattle.sacct_book.proofs.Going.{goes_on-other, goes_on-same}
use Rattle.sacct_book.proofs.timeline.Timeline.go_on.Goals as goal

pub returns-then-self-cpus : goal.returns-then-self-cpus
returns-then-self-cpus c =
    goes_on-same (times_of c.args.self.now) c.args.cpus c.args.moment c.if-self-cpus.true c.requires.since

pub returns : goal.returns
returns c =
    goes_on-other (times_of c.args.self.now) c.close.new.past.items c.args.cpus c.args.moment c.close.ensures
