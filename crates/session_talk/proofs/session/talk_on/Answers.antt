use Rattle.std.proofs.Common.{◌≡◌, List, ℕ, false, ap, subst, ◌∙◌}
use Rattle.ctl_desk.specs.Desk.{state_of}
use Rattle.session_text.specs.Heard.{first_reader}
use Rattle.session_talk.specs.Talk.{IsTalk, Post, first_post, scene, setting}
use Rattle.session_talk.specs.Turns.{post}
use Rattle.session_talk.specs.declared.session.Session.{Session}
use Rattle.session_talk.proofs.session.talk_on.Goals as goal

pub returns-clause-talked : goal.returns-clause-talked
returns-clause-talked g c =
    let pending = c.new-pending.result.items in
    let first : post c.args.session.reader 0 pending c.args.session.wrong ≡ first_post =
    ap (λ (x : Session). post x.reader 0 pending x.wrong) c.requires
    ∙ ap (λ (l : List ℕ). post first_reader 0 l false) c.new-pending.ensures.items in
    subst (λ (p : Post). IsTalk (setting c.args.name.now c.args.input (g.Q.Shelf.files c.args.shelf.now)) p (state_of c.args.desk) (scene (g.S.Source.left c.args.source.now) (g.S.Source.read_faults c.args.source.now) (g.K.Sink.taken c.args.output.now) (g.K.Sink.write_faults c.args.output.now) (g.Q.Shelf.shelf_faults c.args.shelf.now)) (scene (g.S.Source.left c.work_lines-ended.new.source) (g.S.Source.read_faults c.work_lines-ended.new.source) (g.K.Sink.taken c.work_lines-ended.new.output) (g.K.Sink.write_faults c.work_lines-ended.new.output) (g.Q.Shelf.shelf_faults c.work_lines-ended.new.shelf)) c.work_lines-ended.result) first c.work_lines-ended.ensures.talked

pub returns-clause-kept : goal.returns-clause-kept
returns-clause-kept g c = c.work_lines-ended.ensures.kept
