use Rattle.std.proofs.Common.{refl}
use Rattle.node_daemon.specs.Turn.{report_at, root}
use Rattle.replay.proofs.Telling.{is_told, passed_on, played_told}
use Rattle.replay.proofs.turns.turn.Goals as goal

pub returns-clause-state : goal.returns-clause-state
returns-clause-state c =
    let told = is_told c.answers_follow_at_a_desk_of_its_own.ensures c.args.desk.now c.daemon_turn.new.desk c.args.now root root
    (report_at c.args.now c.args.one.now.daemon) c.in_ok-answer.answer refl c.keeps_history.ensures
    c.in_ok-answer.ensures.goes_on c.in_ok-answer.ensures.answered in
    told.leads

pub returns-clause-played : goal.returns-clause-played
returns-clause-played c =
    let told = is_told c.answers_follow_at_a_desk_of_its_own.ensures c.args.desk.now c.daemon_turn.new.desk c.args.now root root
    (report_at c.args.now c.args.one.now.daemon) c.in_ok-answer.answer refl c.keeps_history.ensures
    c.in_ok-answer.ensures.goes_on c.in_ok-answer.ensures.answered in
    played_told c.args.desk.now c.daemon_turn.new.desk c.args.now c.args.one.now c.daemon_turn.new.daemon _ _ _ told
    c.in_ok-answer.ensures.after c.in_ok-runs.ensures c.in_ok-note_launches.ensures

pub returns-in_err-answer-clause-state : goal.returns-in_err-answer-clause-state
returns-in_err-answer-clause-state c = passed_on _ _ c.from_residual.result c.from_residual.ensures.1

pub returns-in_err-runs-clause-state : goal.returns-in_err-runs-clause-state
returns-in_err-runs-clause-state c =
    passed_on _ _ c.from_residual-in_err-runs.result c.from_residual-in_err-runs.ensures.1

pub returns-in_err-note_launches-clause-state : goal.returns-in_err-note_launches-clause-state
returns-in_err-note_launches-clause-state c =
    passed_on _ _ c.from_residual-in_err-note_launches.result c.from_residual-in_err-note_launches.ensures.1
