use Rattle.std.proofs.Common.{◌≤◌, nat_eq, sym, arith}
use Rattle.backfill_planner.specs.declared.Placed.{Placed}
use Rattle.ctl_state.specs.State.{last_second}
use Rattle.ctl_show.proofs.Ranked.{found-all}
use Rattle.ctl_show.proofs.pending.start_in.Goals as goal

pub new-requires : goal.new-requires
new-requires c =
    let placed = c.in-Some.placed.now in
    let low : 0 ≤ placed.start = omega arith in
    let last : placed.start ≤ last_second =
    found-all (λ (one : Placed). one.start ≤ last_second) (λ (one : Placed). nat_eq one.id c.args.id) c.args.plan.now
    placed c.requires (sym (rw c.in-Some.is at c.placement_of.ensures)) in
    (omega arith, (low, last))
