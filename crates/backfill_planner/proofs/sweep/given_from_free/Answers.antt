use Rattle.std.proofs.Common.{◌≡◌, ◌≤◌, true, All, arith}
use Rattle.resource_profile.specs.Windows.{free_of, IsSteady}
use Rattle.plain_data.specs.Rows.{has_id}
use Rattle.backfill_planner.specs.declared.job.Barred.{Barred}
use Rattle.backfill_planner.specs.Giving.{window_end}
use Rattle.backfill_planner.proofs.Sweeping.{gives-until, in-reach-some, in-reach-none, end-some, end-none}
use Rattle.backfill_planner.proofs.sweep.given_from_free.Goals as goal

pub returns-in-Some-clause-gives : goal.returns-in-Some-clause-gives
returns-in-Some-clause-gives c =
    let window = c.free_over-window.result in
    let job = c.args.job.now in
    let last = c.next_begin-last.result in
    let steady : IsSteady (λ moment. free_of c.args.rooms.now c.args.profile.now.holds c.args.node moment) c.args.second (window_end job c.args.second) window = rw (← c.window_end-end.ensures.end, ← c.requires.rooms) c.free_over-window.ensures in
    let after : window_end job c.args.second ≤ last = rw (← c.window_end-end.ensures.end) c.next_begin-last.ensures.later in
    let begins : All (λ (time : Barred). has_id time.nodes c.args.node ≡ true → window_end job c.args.second ≤ time.from → last ≤ time.from) job.barred = rw (← c.window_end-end.ensures.end) c.next_begin-last.ensures.least in
    let ends = end-some job c.args.second c.in-Some.seconds c.in-Some.is in
    let reach = in-reach-some job c.args.second c.in-Some.seconds window.begins_before last c.in-Some.is (omega (arith, c.get.ensures.range.0, c.get.ensures.value)) steady.begins (rw ends at after) in
    rw (c.min-until.ensures, c.get.ensures.value) (gives-until c.args.rooms.now c.args.profile.now.holds job c.args.second c.args.node c.tasks_given-tasks.result _ last window c.tasks_given-tasks.ensures.tasks steady reach c.next_begin-last.ensures.within c.requires.clear begins)

pub returns-in-None-clause-gives : goal.returns-in-None-clause-gives
returns-in-None-clause-gives c =
    let window = c.free_over-window.result in
    let job = c.args.job.now in
    let last = c.next_begin-last.result in
    let steady : IsSteady (λ moment. free_of c.args.rooms.now c.args.profile.now.holds c.args.node moment) c.args.second (window_end job c.args.second) window = rw (← c.window_end-end.ensures.end, ← c.requires.rooms) c.free_over-window.ensures in
    let after : window_end job c.args.second ≤ last = rw (← c.window_end-end.ensures.end) c.next_begin-last.ensures.later in
    let begins : All (λ (time : Barred). has_id time.nodes c.args.node ≡ true → window_end job c.args.second ≤ time.from → last ≤ time.from) job.barred = rw (← c.window_end-end.ensures.end) c.next_begin-last.ensures.least in
    let ends = end-none job c.args.second c.in-None.is in
    let reach = in-reach-none job c.args.second window.begins_before last c.in-None.is steady.begins (rw ends at after) in
    gives-until c.args.rooms.now c.args.profile.now.holds job c.args.second c.args.node c.tasks_given-tasks.result _ last window c.tasks_given-tasks.ensures.tasks steady reach c.next_begin-last.ensures.within c.requires.clear begins
