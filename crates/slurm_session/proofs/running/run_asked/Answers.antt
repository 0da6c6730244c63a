use Rattle.std.proofs.Common.{inl, inr, refl, ◌∙◌}
use Rattle.ctl_desk.specs.Desk.{state_of}
use Rattle.plain_data.specs.Files.{named_by}
use Rattle.session_talk.specs.Talk.{scene}
use Rattle.slurm_session.specs.Command.{text_of, words_of}
use Rattle.slurm_session.proofs.Endings.{opened_run, talked_isnt_off, unopened_isnt_off}
use Rattle.slurm_session.proofs.running.run_asked.Goals as goal

pub returns-in-Ok-clause-ran : goal.returns-in-Ok-clause-ran
returns-in-Ok-clause-ran g c =
    inr (opened_run (g.Q.Shelf.files c.args.shelf.now) (g.Q.Shelf.files c.open_cluster.new.shelf) c.args.input
    (words_of c.args.asked.now) (state_of c.in-Ok.desk) (g.S.Source.left c.args.source.now) (g.S.Source.read_faults c.args.source.now) (g.K.Sink.taken c.args.output.now) (g.K.Sink.write_faults c.args.output.now) (g.Q.Shelf.shelf_faults c.args.shelf.now)
    (g.Q.Shelf.shelf_faults c.open_cluster.new.shelf)
    (scene (g.S.Source.left c.talk_at.new.source) (g.S.Source.read_faults c.talk_at.new.source) (g.K.Sink.taken c.talk_at.new.output) (g.K.Sink.write_faults c.talk_at.new.output) (g.Q.Shelf.shelf_faults c.talk_at.new.shelf)) c.talk_at.result
    c.in-Ok.ensures.opened.0 c.in-Ok.ensures.opened.1 c.in-Ok.ensures.kept c.talk_at.ensures.talked)

pub returns-in-Ok-clause-used : goal.returns-in-Ok-clause-used
returns-in-Ok-clause-used g c =
    talked_isnt_off (g.Q.Shelf.files c.open_cluster.new.shelf) c.args.input (text_of c.args.asked.now.file) (state_of c.in-Ok.desk)
    (scene (g.S.Source.left c.args.source.now) (g.S.Source.read_faults c.args.source.now) (g.K.Sink.taken c.args.output.now) (g.K.Sink.write_faults c.args.output.now) (g.Q.Shelf.shelf_faults c.open_cluster.new.shelf))
    (scene (g.S.Source.left c.talk_at.new.source) (g.S.Source.read_faults c.talk_at.new.source) (g.K.Sink.taken c.talk_at.new.output) (g.K.Sink.write_faults c.talk_at.new.output) (g.Q.Shelf.shelf_faults c.talk_at.new.shelf)) c.talk_at.result
    c.talk_at.ensures.talked

pub returns-in-Ok-clause-kept : goal.returns-in-Ok-clause-kept
returns-in-Ok-clause-kept g c = c.talk_at.ensures.kept ∙ c.in-Ok.ensures.kept

pub returns-in-Err-clause-ran : goal.returns-in-Err-clause-ran
returns-in-Err-clause-ran g c = inl (record { refused = c.in-Err.ensures.opened; alone = refl })

pub returns-in-Err-clause-used : goal.returns-in-Err-clause-used
returns-in-Err-clause-used g c =
    unopened_isnt_off (g.Q.Shelf.files c.args.shelf.now) (named_by c.args.asked.now.files)
    (g.Q.Shelf.shelf_faults c.args.shelf.now) (g.Q.Shelf.shelf_faults c.open_cluster.new.shelf) c.in-Err.end
    c.in-Err.ensures.opened
