use Rattle.daemon_world.proofs.Claimed.{runs_once}
use Rattle.daemon_world.proofs.Whole.{came_together}
use Rattle.daemon_world.proofs.laws.daemons_run_what_is_held.Goals as goal

pub returns-clause-apart : goal.returns-clause-apart
returns-clause-apart c = λ w node came.
    ((came_together c.every_event_keeps_all_together.ensures.together w came).each node).fit.apart

pub returns-clause-once : goal.returns-clause-once
returns-clause-once c = λ w node came start.
    runs_once w.state node (w.daemons node)
    (((came_together c.every_event_keeps_all_together.ensures.together w came).each node).fit) start

pub returns-clause-held : goal.returns-clause-held
returns-clause-held c = λ w node came.
    ((came_together c.every_event_keeps_all_together.ensures.together w came).each node).fit.held

pub returns-clause-together : goal.returns-clause-together
returns-clause-together c = came_together c.every_event_keeps_all_together.ensures.together
