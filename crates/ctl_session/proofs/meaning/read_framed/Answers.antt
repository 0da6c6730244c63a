use Rattle.std.proofs.Common.{◌≡◌, ◌∙◌, sym}
use Rattle.command_words.specs.declared.framed.FramedHead.TheVariants as head
use Rattle.ctl_session.specs.Meaning.{head_of}
use Rattle.ctl_session.proofs.Asking.{called, called_not}
use Rattle.ctl_session.proofs.meaning.read_framed.Goals as goal

pub returns-in-Calls-clause-ok : goal.returns-in-Calls-clause-ok
returns-in-Calls-clause-ok g c =
    let says : head_of c.args.block.now ≡ head.Calls c.in-Calls.caller =
    rw (c.as_bytes.ensures, c.attachment.ensures) at (sym c.in_ok-caller.ensures ∙ c.in-Calls.is) in
    called c.read_called.result c.args.block.now c.in-Calls.caller c.read_clock-moment.result _ _ _ _ says
    (rw c.attachment-in-Calls.ensures at c.read_called.ensures) c.read_clock-moment.ensures

-- the clock was read, and the words want memory
pub returns-in-Calls-clause-err : goal.returns-in-Calls-clause-err
returns-in-Calls-clause-err g c =
    let says : head_of c.args.block.now ≡ head.Calls c.in-Calls.caller =
    rw (c.as_bytes.ensures, c.attachment.ensures) at (sym c.in_ok-caller.ensures ∙ c.in-Calls.is) in
    called_not c.read_called.result c.args.block.now c.in-Calls.caller c.read_clock-moment.result _ _ _ _ says
    c.read_clock-moment.ensures
