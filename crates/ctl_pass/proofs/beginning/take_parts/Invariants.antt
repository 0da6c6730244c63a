use Rattle.std.proofs.Common.{◌≡◌, ◌≤◌, length, map, take, vec_len, vec_capacity}
use Rattle.ctl_state.specs.Index.{TakesParts}
use Rattle.ctl_pass.specs.Taking.{part_by}
use Rattle.ctl_pass.proofs.beginning.take_parts.Given as goal

-- the parts so far are taken, and there is room for the others
abbrev pub invariant-loop-share : goal.invariant-loop-share
invariant-loop-share l = record {
  parts : l.parts.items
      ≡ map (part_by l.initial.nodes.records l.initial.nodes.held) (take l.share-index l.shares);
  held : TakesParts l.initial.nodes.held l.parts.items l.nodes.held;
  records : l.nodes.records ≡ l.initial.nodes.records;
  count : vec_len l.parts ≡ l.share-index;
  room : length l.shares ≤ vec_capacity l.parts;
}
