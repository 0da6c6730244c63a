use Rattle.daemon_world.proofs.Turns.{cut_leads, turn_leads}
use Rattle.daemon_world.proofs.laws.a_turn_is_events.Goals as goal

pub returns-clause-whole : goal.returns-clause-whole
returns-clause-whole c = turn_leads c.orders_are_due.ensures

pub returns-clause-cut : goal.returns-clause-cut
returns-clause-cut c = cut_leads
