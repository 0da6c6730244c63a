use Rattle.std.proofs.Common.{◌≡◌, take}
use Rattle.plain_data.specs.Rows.{has_id}
use Rattle.ctl_state.specs.Index.{GivesParts}
use Rattle.ctl_nodes.specs.Failing.{parts_lost}
use Rattle.ctl_nodes.proofs.failing.give_back.Given as goal

abbrev pub invariant-loop-part : goal.invariant-loop-part
invariant-loop-part l = record {
  records : l.nodes.records ≡ l.fn.nodes.records;
  given : GivesParts l.fn.nodes.held (parts_lost (has_id l.lost) (take l.part-index l.parts)) l.nodes.held;
}
