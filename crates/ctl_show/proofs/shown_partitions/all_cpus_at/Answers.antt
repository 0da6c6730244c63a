use Rattle.std.proofs.Common.{ap, get_or, ◌∙◌}
use Rattle.std.specs.Prelude.{min, ◌+◌}
use Rattle.std.proofs.lemmas.List.{get_or_default}
use Rattle.ctl_show.specs.Found.{last_count}
use Rattle.ctl_show.specs.Records.{cpus_at}
use Rattle.ctl_show.proofs.Gathered.{count-more}
use Rattle.ctl_show.proofs.shown_partitions.all_cpus_at.Goals as goal

pub loop-place-preserved : goal.loop-place-preserved
loop-place-preserved c =
    let places = c.args.places.now in
    let i = c.loop-place.place-index in
    let place = get_or places i 0 in
    let count = c.loop-place.count in
    count-more (cpus_at c.args.nodes.now) places i place last_count count _ c.loop-place-test.true
    (get_or_default places i 0 place c.loop-place-test.true) c.loop-place.invariant
    (c.saturating_add-count.ensures ∙ ap (λ more. min (count + more) last_count) c.cpus_at.ensures)
