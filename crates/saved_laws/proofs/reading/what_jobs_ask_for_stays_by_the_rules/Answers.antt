use Rattle.std.proofs.Common.{subst, sym}
use Rattle.script_run.specs.Behind.{AreByRules}
use Rattle.saved_laws.proofs.RulesKept.{blocks_ruled, history_ruled, opening_ruled, script_ruled, step_ruled}
use Rattle.saved_laws.proofs.reading.what_jobs_ask_for_stays_by_the_rules.Goals as goal

pub returns-clause-opening : goal.returns-clause-opening
returns-clause-opening c = opening_ruled

pub returns-clause-step : goal.returns-clause-step
returns-clause-step c = step_ruled

pub returns-clause-meanings : goal.returns-clause-meanings
returns-clause-meanings c = script_ruled

pub returns-clause-script : goal.returns-clause-script
returns-clause-script c = blocks_ruled c.what_is_asked_is_by_the_rules.ensures.plain

pub returns-clause-history : goal.returns-clause-history
returns-clause-history c = history_ruled

pub returns-clause-restored : goal.returns-clause-restored
returns-clause-restored c = λ conf file s files sound kept ruled.
    subst AreByRules (sym (c.what_is_saved_comes_back.ensures.rest conf file s files sound kept)) ruled
