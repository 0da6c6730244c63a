-- The orders that come are due.
use Rattle.std.proofs.Common.{◌∙◌, ap}
use Rattle.node_daemon.specs.Daemon.{Daemon}
use Rattle.node_daemon.specs.Turn.{given_reply}
use Rattle.node_daemon.proofs.Answering.{answer_done}
use Rattle.node_daemon.proofs.turn.daemon_turn.Goals as goal

pub returns-clause-after : goal.returns-clause-after
returns-clause-after g c =
    let answer = c.in_ok-answer.answer in
    c.in_ok-give.ensures.ok
    ∙ ap (λ (daemon : Daemon). given_reply c.args.now answer.reply daemon) c.in_ok-answer.ensures.polled
    ∙ answer_done c.args.now c.args.daemon.now _ _ answer c.in_ok-answer.ensures.answered
