use Rattle.std.proofs.Common.{◌≡◌, [], true, false, is_some, sym, ap, ◌∙◌}
use Rattle.backfill_planner.specs.Giving.{window_end, bars, is_barred}
use Rattle.backfill_planner.proofs.NothingHeld.{any-found, give-barred, give-nothing_held}
use Rattle.backfill_planner.proofs.empty_nodes.tasks_of_empty_node.Goals as goal

pub returns-then-is_some : goal.returns-then-is_some
returns-then-is_some c =
    let job = c.args.job.now in
    let barred : is_barred job.barred c.args.node 0 (window_end job 0) ≡ true =
    rw (← c.window_end.ensures.end)
    (sym (any-found (bars c.args.node 0 c.window_end.result) job.barred) ∙ sym (ap is_some c.barred_until.ensures) ∙ sym c.is_some.ensures ∙ c.if-is_some.true) in
    give-barred c.args.rooms.now [] job 0 c.args.node barred

pub returns : goal.returns
returns c =
    let job = c.args.job.now in
    let clear : is_barred job.barred c.args.node 0 (window_end job 0) ≡ false =
    rw (← c.window_end.ensures.end)
    (sym (any-found (bars c.args.node 0 c.window_end.result) job.barred) ∙ sym (ap is_some c.barred_until.ensures) ∙ sym c.is_some.ensures ∙ c.if-is_some.false) in
    c.tasks_given.ensures.tasks ∙ give-nothing_held c.args.rooms.now job 0 c.args.node clear
