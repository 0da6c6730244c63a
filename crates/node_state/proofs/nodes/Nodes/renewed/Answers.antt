-- The nodes are named once, as the lines are, and no more is held of one than its line has.
use Rattle.node_state.proofs.Renewed.{named_once-renewed, within-renewed}
use Rattle.node_state.proofs.nodes.Nodes.renewed.Goals as goal

pub places_of-requires : goal.places_of-requires
places_of-requires c =
    rw (c.as_slice-2.ensures.value, c.in_ok-records.ensures)
    (named_once-renewed c.args.self.now.records c.args.dropped.now c.args.moment c.args.confs.items c.requires.few c.requires.once)

pub invariant_of-result : goal.invariant_of-result
invariant_of-result c = (
  rw c.in_ok-records.ensures (named_once-renewed c.args.self.now.records c.args.dropped.now c.args.moment c.args.confs.items c.requires.few c.requires.once),
  rw (c.in_ok-records.ensures, c.in_ok-held.ensures, c.as_slice.ensures.value)
      (within-renewed c.args.self.now c.args.dropped.now c.args.moment c.args.confs.items c.requires.fits),
  λ name. rw (← c.as_slice-2.ensures.value) (c.in_ok-places.ensures name),
)
