use Rattle.std.proofs.Common.{arith}
use Rattle.saved_data.specs.Sizes.{longest_text}
use Rattle.script_run.proofs.Ruled.{read_again}
use Rattle.script_run.proofs.saving.saved_text.Goals as goal

pub returns-clause-read : goal.returns-clause-read
unfolding longest_text
returns-clause-read c =
    read_again c.args.ctl.now.state c.in_ok-text.text.items c.in_ok-text.ensures.text
    (omega (arith, c.if-len-gt-LONGEST_TEXT.false, c.len.ensures)) c.in_ok-text.ensures.savable
