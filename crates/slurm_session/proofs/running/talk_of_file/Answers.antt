use Rattle.std.proofs.Common.{◌∙◌}
use Rattle.ctl_desk.specs.Desk.{state_of}
use Rattle.session_talk.specs.Talk.{scene}
use Rattle.slurm_session.proofs.Endings.{read_run, unread_run}
use Rattle.slurm_session.proofs.running.talk_of_file.Goals as goal

pub returns-in-Ok-clause-talked : goal.returns-in-Ok-clause-talked
returns-in-Ok-clause-talked g c = λ input.
    read_run (g.Q.Shelf.files c.args.shelf.now) (g.Q.Shelf.files c.read_text.new.shelf) input c.args.name.now c.in-Ok.text.items
    (state_of c.args.desk) (g.S.Source.left c.args.source.now) (g.S.Source.read_faults c.args.source.now) (g.K.Sink.taken c.args.output.now) (g.K.Sink.write_faults c.args.output.now) (g.Q.Shelf.shelf_faults c.args.shelf.now) (g.Q.Shelf.shelf_faults c.read_text.new.shelf)
    (scene (g.S.Source.left c.args.source.now) (g.S.Source.read_faults c.args.source.now) (g.K.Sink.taken c.talk_on_text-ended.new.output) (g.K.Sink.write_faults c.talk_on_text-ended.new.output) (g.Q.Shelf.shelf_faults c.talk_on_text-ended.new.shelf))
    c.talk_on_text-ended.result c.in-Ok.ensures.read.0 c.in-Ok.ensures.read.1 c.in-Ok.ensures.kept c.talk_on_text-ended.ensures.talked

pub returns-in-Ok-clause-kept : goal.returns-in-Ok-clause-kept
returns-in-Ok-clause-kept g c = c.talk_on_text-ended.ensures.kept ∙ c.in-Ok.ensures.kept

pub returns-in-Err-clause-talked : goal.returns-in-Err-clause-talked
returns-in-Err-clause-talked g c = λ input.
    unread_run (g.Q.Shelf.files c.args.shelf.now) input c.args.name.now (state_of c.args.desk) (g.S.Source.left c.args.source.now) (g.S.Source.read_faults c.args.source.now) (g.K.Sink.taken c.args.output.now) (g.K.Sink.write_faults c.args.output.now)
    (g.Q.Shelf.shelf_faults c.args.shelf.now) (g.Q.Shelf.shelf_faults c.read_text.new.shelf) c.in-Err.end c.in-Err.ensures.read

pub returns-in-Err-clause-kept : goal.returns-in-Err-clause-kept
returns-in-Err-clause-kept g c = c.in-Err.ensures.kept
