use Rattle.std.proofs.Common.{◌≡◌, sum_by, refl, arith}
use Rattle.ctl_state.specs.State.{state_of}
use Rattle.ctl_show.specs.Records.{cpus_at, partition_row}
use Rattle.ctl_show.proofs.Bounded.{all-cpus-few}
use Rattle.ctl_show.proofs.shown_partitions.partition_row.Goals as goal

pub returns : goal.returns
unfolding partition_row
returns c =
    let s = state_of c.args.cluster.now in
    let places = c.args.partition.now.nodes in
    let nodes = c.requires.sound.nodes in
    let few = all-cpus-few s.nodes places nodes.named.few nodes.each c.requires.there.once c.requires.there.there in
    let counted = rw (c.records-2.ensures.value, c.as_slice-2.ensures) at c.all_cpus_at-cpus.ensures in
    let cpus : c.all_cpus_at-cpus.result ≡ sum_by (cpus_at s.nodes) places = omega (arith, counted, few) in
    rw (
      c.in_ok-copy.ensures,
      c.get.ensures.value,
      c.get-2.ensures.value,
      c.from_vec.ensures,
      c.in_ok-names.ensures,
      c.records.ensures.value,
      c.as_slice.ensures,
      cpus,
    ) refl
