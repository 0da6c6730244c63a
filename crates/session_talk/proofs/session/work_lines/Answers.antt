use Rattle.std.proofs.Common.{Option, List, ◌+◌, refl, subst, ◌∙◌, arith}
use Rattle.slurm_io.specs.Shelf.{ShelfFile}
use Rattle.ctl_desk.specs.Desk.{state_of}
use Rattle.session_talk.specs.Talk.{IsTalk, scene, setting}
use Rattle.session_talk.specs.Turns.{TakesLine, post}
use Rattle.session_talk.proofs.Turning.{ended_as, goes_on, spent}
use Rattle.session_talk.specs.declared.session.How.TheVariants as end
use Rattle.session_talk.proofs.session.work_lines.Goals as goal

pub loop-before-init : goal.loop-before-init
loop-before-init g c = record { talk = λ new ended talk. talk; kept = refl }

pub loop-before-preserved : goal.loop-before-preserved
loop-before-preserved g c =
    let so_far = c.loop-before.invariant in
    let next = post c.in-GoesOn.next.reader (c.loop-before.before + 1) c.take_turn.new.pending.items c.in-GoesOn.next.wrong in
    let takes = subst (λ (told : Option (List ShelfFile)). TakesLine (setting c.args.name.now c.args.input told) (post c.loop-before.session.reader c.loop-before.before c.loop-before.pending.items c.loop-before.session.wrong) next (state_of c.loop-before.desk)
    (state_of c.take_turn.new.desk) (scene (g.S.Source.left c.loop-before.source) (g.S.Source.read_faults c.loop-before.source) (g.K.Sink.taken c.loop-before.output) (g.K.Sink.write_faults c.loop-before.output) (g.Q.Shelf.shelf_faults c.loop-before.shelf)) (scene (g.S.Source.left c.take_turn.new.source) (g.S.Source.read_faults c.take_turn.new.source) (g.K.Sink.taken c.take_turn.new.output) (g.K.Sink.write_faults c.take_turn.new.output) (g.Q.Shelf.shelf_faults c.take_turn.new.shelf))) so_far.kept c.in-GoesOn.ensures.turned in
    record {
      talk = λ new ended talk. so_far.talk new ended
          (goes_on (setting c.args.name.now c.args.input (g.Q.Shelf.files c.args.shelf.now)) (post c.loop-before.session.reader c.loop-before.before c.loop-before.pending.items c.loop-before.session.wrong) next (state_of c.loop-before.desk) (state_of c.take_turn.new.desk) (scene (g.S.Source.left c.loop-before.source) (g.S.Source.read_faults c.loop-before.source) (g.K.Sink.taken c.loop-before.output) (g.K.Sink.write_faults c.loop-before.output) (g.Q.Shelf.shelf_faults c.loop-before.shelf)) (scene (g.S.Source.left c.take_turn.new.source) (g.S.Source.read_faults c.take_turn.new.source) (g.K.Sink.taken c.take_turn.new.output) (g.K.Sink.write_faults c.take_turn.new.output) (g.Q.Shelf.shelf_faults c.take_turn.new.shelf)) new ended
          c.lines_are_cut.ensures takes talk);
      kept = c.take_turn.ensures.kept ∙ so_far.kept;
    }

pub returns-in-Ended-clause-talked : goal.returns-in-Ended-clause-talked
returns-in-Ended-clause-talked g c =
    let so_far = c.loop-before.invariant in
    so_far.talk (scene (g.S.Source.left c.take_turn.new.source) (g.S.Source.read_faults c.take_turn.new.source) (g.K.Sink.taken c.take_turn.new.output) (g.K.Sink.write_faults c.take_turn.new.output) (g.Q.Shelf.shelf_faults c.take_turn.new.shelf)) c.in-Ended.ended
    (subst (λ (told : Option (List ShelfFile)). IsTalk (setting c.args.name.now c.args.input told) (post c.loop-before.session.reader c.loop-before.before c.loop-before.pending.items c.loop-before.session.wrong) (state_of c.loop-before.desk) (scene (g.S.Source.left c.loop-before.source) (g.S.Source.read_faults c.loop-before.source) (g.K.Sink.taken c.loop-before.output) (g.K.Sink.write_faults c.loop-before.output) (g.Q.Shelf.shelf_faults c.loop-before.shelf)) (scene (g.S.Source.left c.take_turn.new.source) (g.S.Source.read_faults c.take_turn.new.source) (g.K.Sink.taken c.take_turn.new.output) (g.K.Sink.write_faults c.take_turn.new.output) (g.Q.Shelf.shelf_faults c.take_turn.new.shelf)) c.in-Ended.ended)
    so_far.kept c.in-Ended.ensures.turned)

pub returns-in-Ended-clause-kept : goal.returns-in-Ended-clause-kept
returns-in-Ended-clause-kept g c = c.take_turn.ensures.kept ∙ c.loop-before.invariant.kept

pub returns-clause-talked : goal.returns-clause-talked
returns-clause-talked g c =
    let how = (setting c.args.name.now c.args.input (g.Q.Shelf.files c.args.shelf.now)) in
    let at = (post c.loop-before.session.reader c.loop-before.before c.loop-before.pending.items c.loop-before.session.wrong) in
    let there = (scene (g.S.Source.left c.loop-before.source) (g.S.Source.read_faults c.loop-before.source) (g.K.Sink.taken c.loop-before.output) (g.K.Sink.write_faults c.loop-before.output) (g.Q.Shelf.shelf_faults c.loop-before.shelf)) in
    c.loop-before.invariant.talk there c.spent.result
    (ended_as how at (state_of c.loop-before.desk) there there (record { how = end.Spent; wrong = c.loop-before.session.wrong }) c.spent.result
    c.spent.ensures
    (spent how at (state_of c.loop-before.desk) there (omega (arith, c.loop-before.auto.before-end, c.loop-before-test.false))))

pub returns-clause-kept : goal.returns-clause-kept
returns-clause-kept g c = c.loop-before.invariant.kept
