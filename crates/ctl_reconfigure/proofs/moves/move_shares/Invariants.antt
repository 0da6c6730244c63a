-- The shares so far have moved.
use Rattle.std.proofs.Common.{◌≡◌}
use Rattle.job_table.specs.Walks.{walked}
use Rattle.ctl_reconfigure.specs.Moving.{share_moved}
use Rattle.ctl_reconfigure.proofs.moves.move_shares.Given as goal

abbrev pub invariant-loop-share : goal.invariant-loop-share
invariant-loop-share l = l.shares ≡ walked (share_moved l.places) l.share-index l.fn.shares
