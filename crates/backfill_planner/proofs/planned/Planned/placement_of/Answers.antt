use Rattle.std.proofs.Common.{◌≡◌, ap, ◌<◌, length, subst, sym, ◌∙◌, get_or, None}
use Rattle.std.specs.Prelude.{option_copied, slice_get}
use Rattle.std.proofs.lemmas.List.{get_or_default}
use Rattle.backfill_planner.specs.Plans.{PlannedView, placement_of}
use Rattle.backfill_planner.proofs.Settling.{placed-there, placed-nowhere-there}
use Rattle.backfill_planner.proofs.planned.Planned.placement_of.Goals as goal

pub returns-then-first-index : goal.returns-then-first-index
returns-then-first-index c d =
    let inside = c.self.inside in
    let ranked = inside.ranked.items in
    let place = c.args.place in
    let below : place < length ranked = subst (λ (v : PlannedView). place < length v.ranked) (sym c.self.view_is) c.requires in
    let there = placed-there inside.base ranked inside.moment place c.index-first.result.now c.index.result.now (get_or ranked place d) inside.counts.items inside.placements.items c.self.invariant.counted c.self.invariant.placements below (get_or_default ranked place d (get_or ranked place d) below) c.index-first.ensures c.index.ensures c.if-first-index.true in
    let copied : option_copied c.at.result ≡ slice_get inside.placements.items c.index-first.result.now = c.at.ensures ∙ ap (λ some. slice_get some c.index-first.result.now) c.as_slice.ensures.value in
    copied ∙ subst (λ (v : PlannedView). slice_get inside.placements.items c.index-first.result.now ≡ placement_of v.base v.ranked v.moment place (get_or v.ranked place d)) c.self.view_is there

pub returns-else-first-index : goal.returns-else-first-index
returns-else-first-index c d =
    let inside = c.self.inside in
    let ranked = inside.ranked.items in
    let place = c.args.place in
    let below : place < length ranked = subst (λ (v : PlannedView). place < length v.ranked) (sym c.self.view_is) c.requires in
    let there = placed-nowhere-there inside.base ranked inside.moment place c.index-first.result.now c.index.result.now (get_or ranked place d) inside.counts.items c.self.invariant.counted below (get_or_default ranked place d (get_or ranked place d) below) c.index-first.ensures c.index.ensures c.if-first-index.false in
    subst (λ (v : PlannedView). None ≡ placement_of v.base v.ranked v.moment place (get_or v.ranked place d)) c.self.view_is there
