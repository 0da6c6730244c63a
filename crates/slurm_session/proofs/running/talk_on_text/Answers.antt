use Rattle.std.proofs.Common.{refl, Some}
use Rattle.ctl_desk.specs.Desk.{state_of}
use Rattle.slurm_session.proofs.Endings.{on_text}
use Rattle.slurm_session.proofs.running.talk_on_text.Goals as goal

pub returns-clause-talked : goal.returns-clause-talked
returns-clause-talked g c =
    on_text (g.Q.Shelf.files c.args.shelf.now) c.args.name.now c.as_bytes.result.now c.args.text.items c.new-lines.result
    (state_of c.args.desk) (g.S.Source.left c.args.source.now) (g.S.Source.read_faults c.args.source.now) (g.K.Sink.taken c.args.output.now) (g.K.Sink.write_faults c.args.output.now) (g.Q.Shelf.shelf_faults c.args.shelf.now)
    (Some c.talk.new.source) (g.K.Sink.taken c.talk.new.output) (g.K.Sink.write_faults c.talk.new.output)
    (g.Q.Shelf.shelf_faults c.talk.new.shelf) c.talk.result (cc c.as_bytes.ensures.value) c.new-lines.ensures c.talk.ensures.talked

pub returns-clause-kept : goal.returns-clause-kept
returns-clause-kept g c = c.talk.ensures.kept
