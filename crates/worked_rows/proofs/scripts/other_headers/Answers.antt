-- Each row computes.
use Rattle.std.proofs.Common.{refl}
use Rattle.worked_rows.proofs.Opened.{clusters, headers, asked, plans}
use Rattle.worked_rows.proofs.scripts.other_headers.Goals as goal

pub returns-clause-long_moment : goal.returns-clause-long_moment
unfolding clusters headers plans
returns-clause-long_moment c = refl

pub returns-clause-no_command : goal.returns-clause-no_command
unfolding clusters headers plans
returns-clause-no_command c = refl

pub returns-clause-open_quote : goal.returns-clause-open_quote
unfolding clusters headers plans
returns-clause-open_quote c = refl

pub returns-clause-no_task : goal.returns-clause-no_task
unfolding clusters headers plans
returns-clause-no_task c = refl

pub returns-clause-two_blanks : goal.returns-clause-two_blanks
unfolding clusters headers plans
returns-clause-two_blanks c = refl

pub returns-clause-twice : goal.returns-clause-twice
unfolding clusters headers plans
returns-clause-twice c = refl

pub returns-clause-more : goal.returns-clause-more
unfolding clusters headers plans
returns-clause-more c = refl

pub returns-clause-stray_first : goal.returns-clause-stray_first
unfolding clusters headers plans
returns-clause-stray_first c = refl

pub returns-clause-other_command : goal.returns-clause-other_command
unfolding clusters headers plans
returns-clause-other_command c = refl

pub returns-clause-other_command_first : goal.returns-clause-other_command_first
unfolding clusters headers plans
returns-clause-other_command_first c = refl

pub returns-clause-other_action : goal.returns-clause-other_action
unfolding clusters headers asked plans
returns-clause-other_action c = refl

pub returns-clause-no_action : goal.returns-clause-no_action
unfolding clusters headers asked plans
returns-clause-no_action c = refl
