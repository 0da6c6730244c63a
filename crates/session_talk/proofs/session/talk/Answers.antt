use Rattle.ctl_desk.specs.Desk.{state_of}
use Rattle.session_talk.specs.Talk.{first_post, scene, setting}
use Rattle.session_talk.proofs.Turning.{unbegun}
use Rattle.session_talk.proofs.session.talk.Goals as goal

pub returns-in-Ok-clause-talked : goal.returns-in-Ok-clause-talked
returns-in-Ok-clause-talked g c = c.talk_on.ensures.talked

pub returns-in-Ok-clause-kept : goal.returns-in-Ok-clause-kept
returns-in-Ok-clause-kept g c = c.talk_on.ensures.kept

pub returns-in-Err-clause-talked : goal.returns-in-Err-clause-talked
returns-in-Err-clause-talked g c = unbegun (setting c.args.name.now c.args.input (g.Q.Shelf.files c.args.shelf.now)) first_post (state_of c.args.desk) (scene (g.S.Source.left c.args.source.now) (g.S.Source.read_faults c.args.source.now) (g.K.Sink.taken c.args.output.now) (g.K.Sink.write_faults c.args.output.now) (g.Q.Shelf.shelf_faults c.args.shelf.now))
