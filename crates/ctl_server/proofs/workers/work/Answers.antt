use Rattle.ctl_server.proofs.Leaving.{left_by}
use Rattle.ctl_server.proofs.workers.work.Goals as goal

pub returns : goal.returns
returns g c = record {
  left = λ opening course ready.
      left_by c.args.lock.now g.A.Door.out g.A.Door.door_faults g.A.Door.sessions g.C.Clock.moments g.C.Clock.course
      opening course c.args.seat c.locked_desk-desk.result c.worker-end.new.desk c.worker-end.new.door
      c.worker-end.new.clock c.into_pass-pass.result c.worker-end.result
      (record {
        goes_on = c.connections_stand_in_histories.ensures.goes_on;
        within = c.entries_stand_within_cuts.ensures.all_within;
        keeps = c.doors_keep_what_was_served.ensures;
        count = c.moments_are_the_first_of_a_course.ensures.count;
        course = c.moments_are_the_first_of_a_course.ensures.course;
      })
      ready c.locked_desk-desk.ensures.sees c.locked_desk-desk.ensures.opening c.into_pass-pass.ensures.pass
      c.into_pass-pass.ensures.known c.worker-end.ensures.worked (g.met.C.Clock.on_course c.worker-end.new.clock);
}
