use Rattle.std.proofs.Common.{◌≡◌, ◌<◌, sym, ◌∙◌, Some, None}
use Rattle.std.specs.Prelude.{find, option_map}
use Rattle.resource_profile.specs.Windows.{free_of, IsShort}
use Rattle.backfill_planner.specs.declared.job.Barred.{Barred}
use Rattle.backfill_planner.specs.Giving.{window_end, bars}
use Rattle.backfill_planner.proofs.Barring.{found-none}
use Rattle.backfill_planner.proofs.Sweeping.{gives-none}
use Rattle.backfill_planner.proofs.Short.{gives-short}
use Rattle.backfill_planner.proofs.sweep.given_from_held.Goals as goal

pub returns-in-Some-clause-gives : goal.returns-in-Some-clause-gives
returns-in-Some-clause-gives c =
    let job = c.args.job.now in
    let found : option_map (λ (time : Barred). time.until) (find (bars c.args.node c.args.second (window_end job c.args.second)) job.barred) ≡ Some c.in-Some.until =
    rw (← c.window_end-end.ensures.end) (sym c.barred_until.ensures ∙ c.in-Some.is) in
    gives-none c.args.rooms.now c.args.profile.now.holds job c.args.second c.args.node c.in-Some.until found

pub given_from_free-requires-clause-clear : goal.given_from_free-requires-clause-clear
given_from_free-requires-clause-clear c =
    let job = c.args.job.now in
    let nothing : option_map (λ (time : Barred). time.until) (find (bars c.args.node c.args.second (window_end job c.args.second)) job.barred) ≡ None =
    rw (← c.window_end-end.ensures.end) (sym c.barred_until.ensures ∙ c.in_default.is) in
    found-none (bars c.args.node c.args.second (window_end job c.args.second)) job.barred nothing

pub returns-in-Some-short_until-clause-gives : goal.returns-in-Some-short_until-clause-gives
returns-in-Some-short_until-clause-gives c =
    let job = c.args.job.now in
    let holds = c.args.profile.now.holds in
    let until = c.in-Some-short_until.until in
    let window : c.args.second < window_end job c.args.second = rw c.window_end-end.ensures.end at c.window_end-end.ensures.later in
    let short : IsShort (λ moment. free_of c.args.rooms.now holds c.args.node moment) c.least_for_one-least.result c.args.second (window_end job c.args.second) until =
    rw (← c.window_end-end.ensures.end, ← c.requires.rooms) c.in-Some-short_until.ensures in
    gives-short c.args.rooms.now holds job c.args.second c.args.node until c.least_for_one-least.result window short c.least_for_one-least.ensures
