use Rattle.std.specs.Prelude.{IfOk}
use Rattle.std.proofs.Common.{◌≡◌, ◌∙◌, Ok, false, [], refl, ap, subst}
use Rattle.std.proofs.lemmas.Result.{IfOk-weaker}
use Rattle.ctl_saved.specs.Saving.{saved_of}
use Rattle.ctl_restore.specs.Restored.{restored}
use Rattle.plain_data.specs.Confs.{ConfView}
use Rattle.ctl_state.specs.State.{State, opening}
use Rattle.cluster_opening.specs.Restoring.{IsSavedText, Restores}
use Rattle.saved_laws.specs.Kept.{in_force}
use Rattle.saved_laws.proofs.ReadAgain.{behind_history, behind_opening, opens_again}
use Rattle.saved_laws.proofs.reading.saved_text_opens_the_state_again.Goals as goal

pub returns-clause-kept_read : goal.returns-clause-kept_read
returns-clause-kept_read c = λ conf file kept ruled.
    let s = c.args.ctl.now.state in
    let order = c.what_is_kept_stays_kept.ensures.order (opening conf file) s kept in
    IfOk-weaker c.saved_text.result _ (λ text. IsSavedText text.items (saved_of s)) (λ text is. is order ruled)
    c.saved_text.ensures.read

pub returns-clause-kept_opens : goal.returns-clause-kept_opens
returns-clause-kept_opens c = λ conf file files kept ruled few.
    let s = c.args.ctl.now.state in
    let order = c.what_is_kept_stays_kept.ensures.order (opening conf file) s kept in
    let fits = c.what_is_saved_comes_back.ensures.fits conf file s files c.cluster.ensures.sound kept few in
    let after = restored conf file (saved_of s) in
    IfOk-weaker c.saved_text.result _ (λ text. Restores conf file text.items (Ok after))
    (λ text is. opens_again conf file s after text.items (is order ruled) fits refl) c.saved_text.ensures.read

pub returns-clause-kept_same : goal.returns-clause-kept_same
returns-clause-kept_same c = λ conf file files kept ruled few named.
    let s = c.args.ctl.now.state in
    let order = c.what_is_kept_stays_kept.ensures.order (opening conf file) s kept in
    let fits = c.what_is_saved_comes_back.ensures.fits conf file s files c.cluster.ensures.sound kept few in
    let same = c.what_is_saved_comes_back.ensures.state conf file s files c.cluster.ensures.sound kept named in
    IfOk-weaker c.saved_text.result _ (λ text. Restores conf file text.items (Ok (record s { size = 0; is_shut = false })))
    (λ text is. opens_again conf file s (record s { size = 0; is_shut = false }) text.items (is order ruled) fits same)
    c.saved_text.ensures.read

pub returns-clause-kept_whole : goal.returns-clause-kept_whole
returns-clause-kept_whole c = λ conf file files kept ruled few none.
    let s = c.args.ctl.now.state in
    returns-clause-kept_same c conf file files kept ruled few
    (c.what_is_saved_comes_back.ensures.none conf file s c.cluster.ensures.sound kept none)

pub returns-clause-read : goal.returns-clause-read
returns-clause-read c = λ conf file entries files sound all is.
    let s = c.args.ctl.now.state in
    let behind = behind_opening (record {
      opening_kept = c.what_is_kept_stays_kept.ensures.opening;
      kept = c.what_is_kept_stays_kept.ensures.history;
      opening_ruled = c.what_jobs_ask_for_stays_by_the_rules.ensures.opening;
      ruled = c.what_jobs_ask_for_stays_by_the_rules.ensures.history;
    }) conf file entries s files sound all is in
    returns-clause-kept_read c (in_force s) file behind.0.kept behind.1

pub returns-clause-opens : goal.returns-clause-opens
returns-clause-opens c = λ conf file entries files sound all is few.
    let s = c.args.ctl.now.state in
    let behind = behind_opening (record {
      opening_kept = c.what_is_kept_stays_kept.ensures.opening;
      kept = c.what_is_kept_stays_kept.ensures.history;
      opening_ruled = c.what_jobs_ask_for_stays_by_the_rules.ensures.opening;
      ruled = c.what_jobs_ask_for_stays_by_the_rules.ensures.history;
    }) conf file entries s files sound all is in
    returns-clause-kept_opens c (in_force s) file behind.0.files behind.0.kept behind.1 few

pub returns-clause-same : goal.returns-clause-same
returns-clause-same c = λ conf file entries files sound all is few named.
    let s = c.args.ctl.now.state in
    let behind = behind_opening (record {
      opening_kept = c.what_is_kept_stays_kept.ensures.opening;
      kept = c.what_is_kept_stays_kept.ensures.history;
      opening_ruled = c.what_jobs_ask_for_stays_by_the_rules.ensures.opening;
      ruled = c.what_jobs_ask_for_stays_by_the_rules.ensures.history;
    }) conf file entries s files sound all is in
    returns-clause-kept_same c (in_force s) file behind.0.files behind.0.kept behind.1 few named

pub returns-clause-again : goal.returns-clause-again
returns-clause-again c = λ file start entries sound over ruled none all others is few.
    let s = c.args.ctl.now.state in
    let behind = behind_history (record {
      opening_kept = c.what_is_kept_stays_kept.ensures.opening;
      kept = c.what_is_kept_stays_kept.ensures.history;
      opening_ruled = c.what_jobs_ask_for_stays_by_the_rules.ensures.opening;
      ruled = c.what_jobs_ask_for_stays_by_the_rules.ensures.history;
    }) file start entries s sound over ruled all is in
    let stays = c.what_is_in_force_stays_where_none_is_taken.ensures.history start entries others in
    let force : in_force s ≡ in_force start = ap in_force is ∙ stays.0 in
    let gone : s.gone ≡ [] = ap (λ (s : State). s.gone) is ∙ stays.1 ∙ none in
    subst (λ (conf : ConfView). IfOk c.saved_text.result (λ text. Restores conf file text.items
    (Ok (record s { size = 0; is_shut = false })))) force
    (returns-clause-kept_whole c (in_force s) file behind.0.files behind.0.kept behind.1 few gone)

pub returns-clause-whole : goal.returns-clause-whole
returns-clause-whole c = λ conf file entries files sound all others is few.
    let s = c.args.ctl.now.state in
    subst (λ (conf : ConfView). IfOk c.saved_text.result (λ text. Restores conf file text.items
    (Ok (record s { size = 0; is_shut = false })))) (c.what_is_kept_stays_kept.ensures.first conf file)
    (returns-clause-again c file (opening conf file) entries sound (c.what_is_kept_stays_kept.ensures.opening conf file files)
    (c.what_jobs_ask_for_stays_by_the_rules.ensures.opening conf file) refl all others is few)
