use Rattle.std.proofs.Common.{◌++◌, ◌∙◌}
use Rattle.std.proofs.KnownBytes.{Consumes-trans}
use Rattle.ctl_session.proofs.reading.next_whole.Goals as goal

-- the last piece was read, and not fed
pub returns-in-Memory-clause-found : goal.returns-in-Memory-clause-found
returns-in-Memory-clause-found g c =
    let before = c.loop-block.invariant.takes in
    let last = c.in-Memory.ensures.brings in (
      (before.read ++ last.0.0, Consumes-trans _ _ _ before.read last.0.0 before.consumed last.0.1),
      last.2
          ∙ c.loop-block.invariant.reads,
    )
