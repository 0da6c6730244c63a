use Rattle.node_daemon.proofs.Answering.{due_when_polled}
use Rattle.node_daemon.proofs.laws.orders_are_due.Goals as goal

pub returns : goal.returns
returns c = due_when_polled
