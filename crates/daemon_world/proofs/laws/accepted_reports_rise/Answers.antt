use Rattle.daemon_world.proofs.Rising.{came_rise}
use Rattle.daemon_world.proofs.laws.accepted_reports_rise.Goals as goal

pub returns : goal.returns
returns c =
    came_rise c.every_event_keeps_all_together.ensures.together c.every_event_keeps_all_together.ensures.rises
