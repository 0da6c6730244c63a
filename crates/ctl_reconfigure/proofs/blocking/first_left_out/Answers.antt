use Rattle.std.proofs.Common.{arith}
use Rattle.ctl_reconfigure.proofs.blocking.first_left_out.Goals as goal

pub places_of_jobs-with_jobs-requires : goal.places_of_jobs-with_jobs-requires
places_of_jobs-with_jobs-requires c =
    rw c.records.ensures.value (λ k d below. omega (arith, c.requires.of_partitions k d below, c.len-count.ensures.value, c.len-count.ensures.few))
