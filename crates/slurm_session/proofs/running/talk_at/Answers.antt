use Rattle.std.proofs.Common.{List, ℕ, Option, Some, None, ap}
use Rattle.std.specs.Borrow.{Bor}
use Rattle.ctl_desk.specs.Desk.{state_of}
use Rattle.session_talk.specs.Talk.{scene}
use Rattle.slurm_session.specs.Command.{text_of}
use Rattle.slurm_session.specs.declared.ending.RunEnd.TheVariants.{Talked}
use Rattle.slurm_session.proofs.Endings.{talked_as}
use Rattle.slurm_session.proofs.running.talk_at.Goals as goal

pub returns-in-Some-clause-talked : goal.returns-in-Some-clause-talked
returns-in-Some-clause-talked g c =
    talked_as (g.Q.Shelf.files c.args.shelf.now) c.args.input (text_of c.args.file) (Some c.in-Some.name.now)
    (state_of c.args.desk) (scene (g.S.Source.left c.args.source.now) (g.S.Source.read_faults c.args.source.now) (g.K.Sink.taken c.args.output.now) (g.K.Sink.write_faults c.args.output.now) (g.Q.Shelf.shelf_faults c.args.shelf.now))
    (scene (g.S.Source.left c.args.source.now) (g.S.Source.read_faults c.args.source.now) (g.K.Sink.taken c.talk_of_file.new.output) (g.K.Sink.write_faults c.talk_of_file.new.output) (g.Q.Shelf.shelf_faults c.talk_of_file.new.shelf))
    c.talk_of_file.result (ap (λ (f : Option (Bor (List ℕ))). text_of f) c.in-Some.is)
    (c.talk_of_file.ensures.talked c.args.input)

pub returns-in-None-clause-talked : goal.returns-in-None-clause-talked
returns-in-None-clause-talked g c =
    talked_as (g.Q.Shelf.files c.args.shelf.now) c.args.input (text_of c.args.file) None
    (state_of c.args.desk) (scene (g.S.Source.left c.args.source.now) (g.S.Source.read_faults c.args.source.now) (g.K.Sink.taken c.args.output.now) (g.K.Sink.write_faults c.args.output.now) (g.Q.Shelf.shelf_faults c.args.shelf.now))
    (scene (g.S.Source.left c.talk.new.source) (g.S.Source.read_faults c.talk.new.source) (g.K.Sink.taken c.talk.new.output) (g.K.Sink.write_faults c.talk.new.output) (g.Q.Shelf.shelf_faults c.talk.new.shelf))
    (Talked c.talk.result) (ap (λ (f : Option (Bor (List ℕ))). text_of f) c.in-None.is) c.talk.ensures.talked

pub returns-in-Some-clause-kept : goal.returns-in-Some-clause-kept
returns-in-Some-clause-kept g c = c.talk_of_file.ensures.kept

pub returns-in-None-clause-kept : goal.returns-in-None-clause-kept
returns-in-None-clause-kept g c = c.talk.ensures.kept
