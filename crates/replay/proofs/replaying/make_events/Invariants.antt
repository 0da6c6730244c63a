use Rattle.std.proofs.Common.{◌≡◌, ◌-◌, ◌*◌}
use Rattle.ctl_desk.specs.Desk.{state_of}
use Rattle.replay.specs.Replay.{HaveReported, events, most_events, standing}
use Rattle.replay.proofs.replaying.make_events.Given as goal

-- the events that are left lead to where all do
abbrev pub invariant-loop-count : goal.invariant-loop-count
invariant-loop-count l = record {
  leads : events (l.left - l.count) l.pace l.submissions (standing (state_of l.desk) l.played l.course)
      ≡ events l.left l.pace l.submissions (standing (state_of l.fn.desk) l.fn.played l.fn.course);
  reported : HaveReported (8 * (most_events - (l.left - l.count))) l.played;
}
