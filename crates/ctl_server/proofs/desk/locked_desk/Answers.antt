use Rattle.std.proofs.Common.{rules}
use Rattle.ctl_server.proofs.Locking.{adds_none}
use Rattle.ctl_server.proofs.desk.locked_desk.Goals as goal

pub leave-pass-requires-clause-entries : goal.leave-pass-requires-clause-entries
leave-pass-requires-clause-entries g c = adds_none c.enter-held.result.turn c.enter-held.result.value c.enter-held.ensures.entries
