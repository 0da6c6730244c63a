use Rattle.std.proofs.Common.{sym, ◌∙◌, map, string_bytes}
use Rattle.session_talk.specs.Talk.{scene}
use Rattle.slurm_session.proofs.Endings.{only_off}
use Rattle.slurm_session.proofs.running.session_run.Goals as goal

pub returns-clause-usage : goal.returns-clause-usage
returns-clause-usage g c = λ e.
    only_off (g.Q.Shelf.files c.args.shelf.now) c.args.input (map string_bytes c.args.words.now)
    (scene (g.S.Source.left c.args.source.now) (g.S.Source.read_faults c.args.source.now) (g.K.Sink.taken c.args.output.now) (g.K.Sink.write_faults c.args.output.now) (g.Q.Shelf.shelf_faults c.args.shelf.now))
    (scene (g.S.Source.left c.run_words-end.new.source) (g.S.Source.read_faults c.run_words-end.new.source) (g.K.Sink.taken c.run_words-end.new.output) (g.K.Sink.write_faults c.run_words-end.new.output) (g.Q.Shelf.shelf_faults c.run_words-end.new.shelf)) c.run_words-end.result
    c.run_words-end.ensures.ended (sym c.status.ensures ∙ e)

pub returns-clause-ran : goal.returns-clause-ran
returns-clause-ran g c = (c.run_words-end.result, c.status.ensures, c.run_words-end.ensures.ended, c.tell_end.ensures)
