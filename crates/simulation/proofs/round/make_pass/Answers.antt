use Rattle.std.proofs.Common.{◌∙◌, ap}
use Rattle.simulation.specs.declared.tally.Tally.{Tally}
use Rattle.request_data.specs.declared.request.Request.TheVariants.{Pass}
use Rattle.simulation.proofs.Desks.{all_stay, alone_so}
use Rattle.simulation.proofs.Following.{IsTold}
use Rattle.simulation.proofs.Rounds.{IsPassed, moment_taken, pass_counts}
use Rattle.simulation.proofs.round.make_pass.Goals as goal

pub returns-in_err-root-clause-go_on : goal.returns-in_err-root-clause-go_on
returns-in_err-root-clause-go_on g c = all_stay _

pub returns-clause-moment : goal.returns-clause-moment
returns-clause-moment g c =
    ap (λ (t : Tally). t.moment) c.take.ensures ∙ moment_taken c.args.now c.in_ok-reply.reply c.args.tally.now

pub returns-clause-alone : goal.returns-clause-alone
returns-clause-alone g c =
    alone_so (IsTold c.args.now Pass c.in_ok-reply.reply) (IsPassed c.args.now c.args.tally.now c.take.new.self) _ _
    c.in_ok-reply.ensures.alone
    (pass_counts c.args.now c.in_ok-reply.reply c.args.tally.now c.take.new.self c.take.ensures)
