use Rattle.std.proofs.Common.{◌≡◌}
use Rattle.ctl_desk.specs.Desk.{state_of}
use Rattle.session_talk.specs.Talk.{IsTalk, Scene, scene, setting}
use Rattle.session_talk.specs.Turns.{post}
use Rattle.session_talk.specs.declared.session.Ended.{Ended}
use Rattle.session_talk.proofs.session.work_lines.Given as goal

-- what goes on from here is a session from the first line on
abbrev pub invariant-loop-before : goal.invariant-loop-before
invariant-loop-before g l = record {
  talk : (new : Scene) (ended : Ended)
      → IsTalk (setting l.name l.input (g.Q.Shelf.files l.fn.shelf))
      (post l.session.reader l.before l.pending.items l.session.wrong) (state_of l.desk)
      (scene (g.S.Source.left l.source) (g.S.Source.read_faults l.source) (g.K.Sink.taken l.output)
      (g.K.Sink.write_faults l.output) (g.Q.Shelf.shelf_faults l.shelf)) new ended
      → IsTalk (setting l.name l.input (g.Q.Shelf.files l.fn.shelf))
      (post l.fn.session.reader 0 l.fn.pending.items l.fn.session.wrong) (state_of l.fn.desk)
      (scene (g.S.Source.left l.fn.source) (g.S.Source.read_faults l.fn.source) (g.K.Sink.taken l.fn.output)
      (g.K.Sink.write_faults l.fn.output) (g.Q.Shelf.shelf_faults l.fn.shelf)) new ended;
  kept : g.Q.Shelf.files l.shelf ≡ g.Q.Shelf.files l.fn.shelf;
}
