use Rattle.ctl_state.specs.State.{opening}
use Rattle.saved_laws.proofs.GoingOn.{AllIsKept, goes_on, goes_on_opened, goes_on_whole}
use Rattle.saved_laws.proofs.restoring.a_restored_controller_goes_on.Goals as goal

pub returns-clause-told : goal.returns-clause-told
returns-clause-told c = λ conf file first next s files sound ranges there open_ named room.
    let all : AllIsKept = record {
      openings = c.what_is_kept_stays_kept.ensures.opening;
      first = c.what_is_kept_stays_kept.ensures.first;
      scripts = c.what_is_kept_stays_kept.ensures.script;
      stays = c.what_is_in_force_stays_where_none_is_taken.ensures.script;
    } in
    (goes_on all file (opening conf file) first next s sound (all.openings conf file files) ranges there open_ named
    room).told

pub returns-clause-behind : goal.returns-clause-behind
returns-clause-behind c = λ conf file first next s files sound ranges there open_ named room.
    let all : AllIsKept = record {
      openings = c.what_is_kept_stays_kept.ensures.opening;
      first = c.what_is_kept_stays_kept.ensures.first;
      scripts = c.what_is_kept_stays_kept.ensures.script;
      stays = c.what_is_in_force_stays_where_none_is_taken.ensures.script;
    } in
    (goes_on all file (opening conf file) first next s sound (all.openings conf file files) ranges there open_ named
    room).behind

pub returns-clause-whole : goal.returns-clause-whole
returns-clause-whole c =
    let all : AllIsKept = record {
      openings = c.what_is_kept_stays_kept.ensures.opening;
      first = c.what_is_kept_stays_kept.ensures.first;
      scripts = c.what_is_kept_stays_kept.ensures.script;
      stays = c.what_is_in_force_stays_where_none_is_taken.ensures.script;
    } in
    goes_on_opened all

pub returns-clause-again : goal.returns-clause-again
returns-clause-again c =
    let all : AllIsKept = record {
      openings = c.what_is_kept_stays_kept.ensures.opening;
      first = c.what_is_kept_stays_kept.ensures.first;
      scripts = c.what_is_kept_stays_kept.ensures.script;
      stays = c.what_is_in_force_stays_where_none_is_taken.ensures.script;
    } in
    goes_on_whole all
