use Rattle.std.proofs.Common.{◌≡◌, ap, subst, sym}
use Rattle.std.specs.Prelude.{IfOk}
use Rattle.ctl_state.specs.State.{State}
use Rattle.ctl_desk.specs.History.{History, IsLegal, present}
use Rattle.sacct_book.specs.Lines as book
use Rattle.script_run.specs.Behind.{window_of}
use Rattle.script_run.proofs.Adding.{of_both}
use Rattle.script_run.proofs.sums.summed.Goals as goal

pub lines_behind-requires-clause-none : goal.lines_behind-requires-clause-none
lines_behind-requires-clause-none c =
    ap (λ (h : History). h.entries) (c.in-Ok.ensures c.requires.legal.0 c.requires.legal.1)

pub lines_behind-requires-clause-legal : goal.lines_behind-requires-clause-legal
lines_behind-requires-clause-legal c =
    subst (λ (h : History). IsLegal h.opening c.args.entries.items)
    (sym (c.in-Ok.ensures c.requires.legal.0 c.requires.legal.1)) c.requires.legal.2

pub returns-in-Ok : goal.returns-in-Ok
returns-in-Ok c = λ s opens.
    subst (λ (o : State). IfOk c.lines_behind.result (λ text. text.items
    ≡ book.lines (of_both o c.args.entries.items) (window_of c.args.period) (present (of_both o c.args.entries.items)).moment))
    (ap (λ (h : History). h.opening) (c.in-Ok.ensures s opens)) c.lines_behind.ensures
