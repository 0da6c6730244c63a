-- The nodes are named once, as the lines of slurm.conf are.
use Rattle.node_state.proofs.Changes.{named_once-opened}
use Rattle.node_state.proofs.nodes.Nodes.build.Goals as goal

pub places_of-requires : goal.places_of-requires
places_of-requires c =
    rw (c.as_slice.ensures.value, c.in_ok-records.ensures) (named_once-opened c.args.confs.items c.requires.few c.requires.once)

pub invariant_of-result : goal.invariant_of-result
invariant_of-result c =
    (rw c.in_ok-records.ensures (named_once-opened c.args.confs.items c.requires.few c.requires.once), rw (← c.as_slice-2.ensures.value) c.in_ok-held.ensures.within, λ name. rw (← c.as_slice.ensures.value) (c.in_ok-places.ensures name))
