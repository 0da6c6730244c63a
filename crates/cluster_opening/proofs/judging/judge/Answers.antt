use Rattle.cluster_opening.proofs.Judgements.{bad_text, judged_bad, unfit_text}
use Rattle.cluster_opening.proofs.judging.judge.Goals as goal

pub returns-in-Err-read_state : goal.returns-in-Err-read_state
returns-in-Err-read_state c =
    let says = rw (c.as_slice.ensures.value, c.as_slice-2.ensures.value) at c.in-Ok.ensures.says in
    judged_bad c.args.files.now c.in-Err-read_state.refusal _ c.in-Err-read_state.ensures.bad
    (λ line. bad_text c.args.files.now.conf.items c.args.files.now.assocs.items c.args.files.now.state _ line says)

pub returns-in-Err-fits : goal.returns-in-Err-fits
returns-in-Err-fits c =
    let says = rw (c.as_slice.ensures.value, c.as_slice-2.ensures.value) at c.in-Ok.ensures.says in
    judged_bad c.args.files.now c.in-Err-fits.refusal _ c.in-Err-fits.ensures.unfit
    (λ line. unfit_text c.args.files.now.conf.items c.args.files.now.assocs.items c.args.files.now.state
    c.in-Ok-read_state.saved _ line says c.in-Ok-read_state.ensures.text)
