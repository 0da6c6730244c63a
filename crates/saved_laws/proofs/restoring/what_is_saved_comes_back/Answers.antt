use Rattle.std.proofs.Common.{◌∙◌, false, ap, sym}
use Rattle.ctl_desk.specs.History.{after_all}
use Rattle.ctl_state.specs.State.{State, opening}
use Rattle.saved_laws.proofs.AllBack.{all_back, all_but_plan_back, none_is_gone, whole_back}
use Rattle.saved_laws.proofs.Fitting.{all_fits, sound_back}
use Rattle.saved_laws.proofs.GoingOn.{back_kept, back_named, back_over, behind_back, saved_again}
use Rattle.script_run.specs.Script.{state_behind_all}
use Rattle.saved_laws.proofs.restoring.what_is_saved_comes_back.Goals as goal

pub returns-clause-fits : goal.returns-clause-fits
returns-clause-fits c = all_fits

pub returns-clause-state : goal.returns-clause-state
returns-clause-state c = λ conf file s files. all_back conf file s files.conf files.file

pub returns-clause-rest : goal.returns-clause-rest
returns-clause-rest c = λ conf file s files sound kept.
    let is = all_but_plan_back conf file s files.conf files.file sound kept in
    is ∙ ap (λ (t : State). record s { plan = t.plan; gone = t.gone; size = 0; is_shut = false }) (sym is)

pub returns-clause-sound : goal.returns-clause-sound
returns-clause-sound c = sound_back

pub returns-clause-kept : goal.returns-clause-kept
returns-clause-kept c = back_kept

pub returns-clause-over : goal.returns-clause-over
returns-clause-over c = back_over

pub returns-clause-named : goal.returns-clause-named
returns-clause-named c = back_named

pub returns-clause-again : goal.returns-clause-again
returns-clause-again c = saved_again

pub returns-clause-none : goal.returns-clause-none
returns-clause-none c = none_is_gone

pub returns-clause-whole : goal.returns-clause-whole
returns-clause-whole c = λ conf file s files. whole_back conf file s files.conf files.file

pub returns-clause-script : goal.returns-clause-script
returns-clause-script c = λ conf file script s files sound ranges keeps there.
    behind_back conf file (state_behind_all (opening conf file) script) s
    (c.what_is_kept_stays_kept.ensures.script file (opening conf file) script sound ranges
    (c.what_is_kept_stays_kept.ensures.opening conf file files))
    (c.what_is_in_force_stays_where_none_is_taken.ensures.script (opening conf file) script keeps)
    (c.what_is_kept_stays_kept.ensures.first conf file) there

pub returns-clause-history : goal.returns-clause-history
returns-clause-history c = λ conf file entries s files sound ranges others there.
    behind_back conf file (after_all (opening conf file) entries) s
    (c.what_is_kept_stays_kept.ensures.history file (opening conf file) entries sound ranges
    (c.what_is_kept_stays_kept.ensures.opening conf file files))
    (c.what_is_in_force_stays_where_none_is_taken.ensures.history (opening conf file) entries others)
    (c.what_is_kept_stays_kept.ensures.first conf file) there
