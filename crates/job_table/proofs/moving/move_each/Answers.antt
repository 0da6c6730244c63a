use Rattle.std.proofs.Common.{◌≡◌, ◌∙◌, ◌<◌, ◌≤◌, ℕ, length, set, get_or, ap, arith}
use Rattle.std.proofs.lemmas.List.{drop_all}
use Rattle.std.proofs.lemmas.List.Elements.{All-nil}
use Rattle.job_table.specs.Moving.{part_moved}
use Rattle.job_table.specs.Walks.{walked}
use Rattle.job_table.proofs.Moved.{set-map_at}
use Rattle.job_table.proofs.Walks.{length-walked, walked-ends, walked-goes_on}
use Rattle.job_table.proofs.moving.move_each.Goals as goal

pub loop-part-preserved : goal.loop-part-preserved
loop-part-preserved c =
    let f = part_moved c.args.places.now in
    let k = c.loop-part.part-index in
    let was = c.args.parts.now in
    let all = c.loop-part.parts in
    let default = c.part-item.result in
    let before = c.loop-part.invariant in
    let inside : k < length was = omega (arith, c.loop-part-test.true, ap length before, length-walked f k was) in
    let within : k < length (walked f k was) = omega (arith, inside, length-walked f k was) in
    ap (λ (node : ℕ). set all k (record (get_or all k default) { node = node })) c.moved-part.ensures
    ∙ ap (λ xs. set xs k (f (get_or xs k default))) before
    ∙ set-map_at f k (walked f k was) default within ∙ walked-goes_on f k was inside

pub returns : goal.returns
returns c =
    let f = part_moved c.args.places.now in
    let k = c.loop-part.part-index in
    let was = c.args.parts.now in
    let before = c.loop-part.invariant in
    let past : length was ≤ k = omega (arith, c.loop-part-test.false, ap length before, length-walked f k was) in
    before ∙ walked-ends f k was (rw (drop_all k was past) (All-nil (λ part. f part ≡ part)))
