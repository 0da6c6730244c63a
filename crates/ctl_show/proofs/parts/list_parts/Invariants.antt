use Rattle.std.proofs.Common.{◌≡◌, take}
use Rattle.ctl_show.specs.Showing
use Rattle.ctl_show.proofs.parts.list_parts.Given as goal

abbrev pub invariant-loop-part : goal.invariant-loop-part
invariant-loop-part l = l.named.items ≡ Showing.named_parts l.nodes (take l.part-index l.parts)
