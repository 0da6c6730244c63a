use Rattle.script_run.proofs.Endings.{book_of, good_book, run_closed, run_other}
use Rattle.script_run.specs.Script.{script_history}
use Rattle.script_run.proofs.running.run_script.Goals as goal

pub end_at-requires : goal.end_at-requires
end_at-requires g c =
    let answered = c.answer_script.ensures in
    let same = book_of c.into_book.result c.answer_script.new.desk
    (script_history c.args.desk.opening answered.script.read) c.into_book.ensures.opening c.into_book.ensures.entries
    (answered.leaves c.in-Closed.is) in
    record { good = good_book c.args.files.now c.args.desk.opening answered.script.read c.into_book.result same c.requires.good }

pub returns-in-Closed : goal.returns-in-Closed
returns-in-Closed g c =
    let answered = c.answer_script.ensures in
    let same = book_of c.into_book.result c.answer_script.new.desk
    (script_history c.args.desk.opening answered.script.read) c.into_book.ensures.opening c.into_book.ensures.entries
    (answered.leaves c.in-Closed.is) in
    run_closed c.args.desk.opening c.args.sacct c.args.save (g.L.Link.wire c.args.link.now)
    (g.L.Link.wire c.answer_script.new.link) (g.L.Link.wire c.end_at.new.link) c.answer_script.result c.end_at.result
    c.into_book.result c.in-Closed.is answered.script same c.end_at.ensures

pub returns-in_default : goal.returns-in_default
returns-in_default g c =
    run_other c.args.desk.opening c.args.sacct c.args.save (g.L.Link.wire c.args.link.now)
    (g.L.Link.wire c.answer_script.new.link) c.answer_script.result c.in_default.not-Closed c.answer_script.ensures.script
