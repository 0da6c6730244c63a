use Rattle.simulation.specs.Simulation.{jobs_asked}
use Rattle.simulation.proofs.Desks.{all_stay, alone_so}
use Rattle.simulation.proofs.Following.{IsTold}
use Rattle.simulation.proofs.Rounds.{IsLooked, look_counts, shows_left}
use Rattle.simulation.proofs.round.look.Goals as goal

pub returns-in_err-root-clause-go_on : goal.returns-in_err-root-clause-go_on
returns-in_err-root-clause-go_on g c = all_stay _

pub returns-clause-left : goal.returns-clause-left
returns-clause-left g c =
    shows_left _ c.args.now c.in_ok-reply.reply c.rows_of.result.now c.args.tally.now c.look.new.self c.rows_of.ensures
    c.look.ensures c.in_ok-reply.ensures.shown

pub returns-clause-alone : goal.returns-clause-alone
returns-clause-alone g c =
    alone_so (IsTold c.args.now jobs_asked c.in_ok-reply.reply) (IsLooked c.args.now c.args.tally.now c.look.new.self) _ _
    c.in_ok-reply.ensures.alone
    (look_counts c.args.now c.in_ok-reply.reply c.rows_of.result.now c.args.tally.now c.look.new.self c.rows_of.ensures
    c.look.ensures)
