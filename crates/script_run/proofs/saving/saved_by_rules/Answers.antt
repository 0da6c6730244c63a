use Rattle.script_run.proofs.Ruled.{savable_by_rules}
use Rattle.script_run.proofs.saving.saved_by_rules.Goals as goal

pub returns-clause-savable : goal.returns-clause-savable
returns-clause-savable c =
    savable_by_rules c.args.ctl.now.state c.in_ok-saved.saved c.in_ok-saved.ensures.saved c.in_ok-saved.ensures.order
    c.tell_savable.ensures
