use Rattle.std.proofs.Common.{◌≡◌, filter_map, map, subst, sym}
use Rattle.std.proofs.lemmas.Result.{IfOk-weaker}
use Rattle.simulation.specs.Run.{HaveReported, IfOneAlone}
use Rattle.simulation.specs.Simulation.{daemon_of, nodes_asked}
use Rattle.simulation.proofs.Desks.{all_stay, alone_so}
use Rattle.simulation.proofs.Following.{IsTold}
use Rattle.simulation.proofs.Rounds.{AreStarted, new_daemons, nodes_start}
use Rattle.simulation.proofs.nodes.start_daemons.Goals as goal

pub returns-in_err-root-clause-go_on : goal.returns-in_err-root-clause-go_on
returns-in_err-root-clause-go_on g c = all_stay _

pub returns-clause-new : goal.returns-clause-new
returns-clause-new g c =
    IfOk-weaker c.started.result (λ daemons. daemons.items ≡ filter_map daemon_of c.rows_of.result.now)
    (λ daemons. HaveReported 0 daemons.items)
    (λ daemons is. subst (HaveReported 0) (sym is) (new_daemons c.rows_of.result.now)) c.started.ensures

pub returns-clause-alone : goal.returns-clause-alone
returns-clause-alone g c =
    IfOk-weaker c.started.result (λ daemons. daemons.items ≡ filter_map daemon_of c.rows_of.result.now)
    (λ daemons. IfOneAlone (map g.D.Desk.sight c.args.desks.now) (map g.D.Desk.sight c.show.new.desks)
    (AreStarted c.args.now daemons.items))
    (λ daemons is. alone_so (IsTold c.args.now nodes_asked c.in_ok-reply.reply) (AreStarted c.args.now daemons.items) _ _
    c.in_ok-reply.ensures.alone
    (nodes_start c.args.now c.in_ok-reply.reply c.rows_of.result.now daemons.items c.rows_of.ensures is))
    c.started.ensures
