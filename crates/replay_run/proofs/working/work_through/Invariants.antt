use Rattle.ctl_desk.specs.Desk.{state_of}
use Rattle.replay_run.specs.Replays.{MayStand}
use Rattle.replay_run.proofs.working.work_through.Given as goal

abbrev pub invariant-loop : goal.invariant-loop
invariant-loop g l = MayStand l.site.conf.now l.site.assocs.now l.site.pace l.submissions (state_of l.desk) l.replaying
