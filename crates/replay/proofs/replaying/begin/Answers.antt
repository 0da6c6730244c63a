use Rattle.std.proofs.Common.{◌-◌, ◌*◌, ◌≡◌, ℕ, arith, false, refl, sym, subst}
use Rattle.ctl_desk.specs.Desk.{state_of}
use Rattle.node_daemon.specs.Turn.{root}
use Rattle.replay.specs.Replay.{HaveReported, most_events, nodes_asked, rows_of, told}
use Rattle.replay.specs.declared.handing.Course.{Course}
use Rattle.replay.proofs.Events.{begins_there, begun_is, most_events_is}
use Rattle.replay.proofs.Reported.{new_daemons}
use Rattle.replay.proofs.replaying.begin.Goals as goal

pub invariant_of-result : goal.invariant_of-result
invariant_of-result c =
    let reply = told root c.first_moment-now.result nodes_asked (state_of c.args.desk.now) in
    let none : 0 ≡ 8 * (most_events - 1000000000) = omega (arith, most_events_is) in (
      omega (arith, most_events_is),
      subst (λ k. HaveReported k c.in_ok-played.played.items) none (rw c.in_ok-played.ensures.played (new_daemons (rows_of reply))),
    )

pub returns : goal.returns
returns c = λ pace.
    let now = c.first_moment-now.result in
    let course : Course = record { replies = c.new.result; moment = now; busy = false; round_at = now } in
    begins_there 1000000000 pace _ (state_of c.args.desk.now) _ _ course (sym most_events_is)
    (begun_is now _ _ _ _ course c.first_moment-now.ensures c.in_ok-played.ensures.state c.in_ok-played.ensures.played
    c.new.ensures.items refl refl refl)
