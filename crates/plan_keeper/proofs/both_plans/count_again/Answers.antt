use Rattle.plan_keeper.specs.Passing.{held_by}
use Rattle.plan_keeper.proofs.Counting.{counted-held}
use Rattle.plan_keeper.proofs.both_plans.count_again.Goals as goal

pub returns : goal.returns
returns c =
    let kept = c.args.kept.now in
    let new_kept = c.count_anew.new.kept in
    rw (c.in-Some.is, ← c.as_slice.ensures) (counted-held (held_by c.args.then.now) (held_by c.args.planning.now) c.profile.result.now c.profile-2.result.now c.args.now c.as_slice.result.now kept.same.seconds.items kept.no_freer.seconds.items new_kept.same.seconds.items new_kept.no_freer.seconds.items c.profile.ensures.rooms c.profile.ensures.holds c.profile-2.ensures.rooms c.profile-2.ensures.holds c.count_anew.ensures)
