use Rattle.std.proofs.Common.{refl}
use Rattle.node_daemon.specs.Turn.{report_at, root}
use Rattle.simulation.proofs.Desks.{one_alone, one_goes_on}
use Rattle.simulation.proofs.Following.{is_told}
use Rattle.simulation.proofs.Turning.{IsTurn, daemon_told, number_kept}
use Rattle.simulation.proofs.round.turn.Goals as goal

pub returns-in_err-answer-clause-go_on : goal.returns-in_err-answer-clause-go_on
returns-in_err-answer-clause-go_on g c =
    one_goes_on g.D.Desk.sight c.args.desks.now c.take-place.result _ c.daemon_turn.new.desk c.take-place.ensures.within
    c.in_err-answer.ensures.goes_on

pub returns-clause-go_on : goal.returns-clause-go_on
returns-clause-go_on g c =
    one_goes_on g.D.Desk.sight c.args.desks.now c.take-place.result _ c.daemon_turn.new.desk c.take-place.ensures.within
    c.in_ok-answer.ensures.goes_on

pub returns-clause-reported : goal.returns-clause-reported
returns-clause-reported g c =
    number_kept c.args.now _ c.args.daemon.now c.daemon_turn.new.daemon c.in_ok-answer.ensures.after

pub returns-clause-alone : goal.returns-clause-alone
returns-clause-alone g c =
    one_alone (IsTurn c.args.now c.args.daemon.now c.daemon_turn.new.daemon) g.D.Desk.sight c.args.desks.now
    c.take-place.result _ c.daemon_turn.new.desk c.take-place.ensures.within
    (λ alone alone'. daemon_told c.args.now c.args.daemon.now c.daemon_turn.new.daemon c.in_ok-answer.answer.reply
    c.in_ok-answer.ensures.after _ _
    (is_told c.answers_follow_alone.ensures _ (g.D.Desk.sight c.daemon_turn.new.desk) c.args.now root
    (report_at c.args.now c.args.daemon.now) c.in_ok-answer.answer refl c.keeps_history.ensures
    c.in_ok-answer.ensures.goes_on c.in_ok-answer.ensures.answered alone alone'))
