use Rattle.std.proofs.Common.{refl, ap, ◌∙◌, nat_eq}
use Rattle.std.specs.HashMap.{get}
use Rattle.run_limits.specs.Tallies.{kept, with_job_if}
use Rattle.run_limits.proofs.Counts.{above-more}
use Rattle.run_limits.proofs.tally.count_above.Goals as goal

pub loop-place-preserved : goal.loop-place-preserved
loop-place-preserved c = λ other.
    c.in_ok-count.ensures other
    ∙ ap (with_job_if (nat_eq _ other) c.args.cpus) (c.loop-place.invariant other)
    ∙ above-more c.args.places.now c.loop-place.place-index _ other c.args.cpus (kept
    (get nat_eq c.args.below.now other)) c.loop-place-test.true c.requires refl
