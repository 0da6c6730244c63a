use Rattle.std.proofs.Common.{◌+◌, ◌∙◌, ap, sym, drop}
use Rattle.std.specs.Prelude.{nat_eq}
use Rattle.std.specs.List.{cons_option}
use Rattle.std.specs.Cmp.Lexicographic.{pointwise}
use Rattle.node_state.specs.Partitions.{places_of}
use Rattle.ctl_reconfigure.proofs.Pairwise.{places-from}
use Rattle.ctl_reconfigure.proofs.same.same_places.Goals as goal

pub loop-name-preserved : goal.loop-name-preserved
loop-name-preserved c =
    let more = places_of c.args.nodes.now.records (drop (c.loop-name.name-index + 1) c.args.names.now) in
    c.loop-name.invariant
    ∙ ap (pointwise nat_eq c.loop-name.rest.now)
    (places-from c.args.nodes.now.records c.args.names.now c.loop-name.name-index c.name-item.result c.loop-name-test.true c.name-item.is)
    ∙ ap (λ found. pointwise nat_eq c.loop-name.rest.now (cons_option found more)) (sym c.find.ensures.value)
    ∙ c.in-Some.ensures.left more
