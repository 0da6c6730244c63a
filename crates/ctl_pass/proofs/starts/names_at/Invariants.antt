use Rattle.std.proofs.Common.{◌≡◌, take}
use Rattle.ctl_pass.specs.Awaiting
use Rattle.ctl_pass.proofs.starts.names_at.Given as goal

-- the names for the shares so far
abbrev pub invariant-loop-share : goal.invariant-loop-share
invariant-loop-share l = l.names.items ≡ Awaiting.names_at l.nodes (take l.share-index l.shares)
