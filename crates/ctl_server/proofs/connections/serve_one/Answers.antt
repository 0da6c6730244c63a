use Rattle.std.proofs.Common.{refl}
use Rattle.ctl_session.specs.Clock.{timing}
use Rattle.ctl_server.specs.Serving.{Serving}
use Rattle.ctl_server.proofs.Turning.{worked_one}
use Rattle.ctl_server.proofs.connections.serve_one.Goals as goal

pub returns-clause-worked : goal.returns-clause-worked
returns-clause-worked g c =
    let serving : Serving = record {
      came = g.A.Link.Link.wire c.args.link;
      back = g.A.Link.Link.wire c.serve_link-ended.new.link;
      desk = g.D.Desk.sight c.args.desk.now;
      desk' = g.D.Desk.sight c.serve_link-ended.new.desk;
      clock = timing (g.C.Clock.course c.args.clock.now) (g.C.Clock.moments c.args.clock.now);
      clock' = timing (g.C.Clock.course c.serve_link-ended.new.clock) (g.C.Clock.moments c.serve_link-ended.new.clock);
      ended = c.serve_link-ended.result;
      ending = c.serve_link-ended.ensures.0;
    } in (
      serving,
      rw c.end_after.ensures
          (worked_one _ _ _ serving _ _ refl refl refl refl
          (record { fresh = c.requires.fresh; served = c.serve_link-ended.ensures.1 })
          c.seen_len-before.ensures.len c.seen_len-after.ensures.len c.requires.out c.done.ensures.sessions
          c.done.ensures.faults),
    )
