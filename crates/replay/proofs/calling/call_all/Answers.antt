use Rattle.std.proofs.Common.{◌≡◌, ◌∙◌, ◌<◌, Bool, List, length, slice_get, slice_index_or, ap, arith}
use Rattle.replay.specs.Replay.{called_one, holds_others}
use Rattle.replay.specs.declared.played.Played.{Played}
use Rattle.replay.specs.declared.played.Run.{Run}
use Rattle.replay.proofs.Called.{calls_go_on}
use Rattle.replay.proofs.calling.call_all.Goals as goal

pub loop-place-preserved : goal.loop-place-preserved
loop-place-preserved c =
    let rows = c.args.rows.now in
    let place = c.loop-place.place in
    let default = c.index-played-place.result in
    let one : Played = slice_index_or c.loop-place.played place default in
    let within : place < length c.loop-place.played = omega (arith, c.loop-place-test.true, c.loop-place.auto.played) in
    let calls : c.holds_others-one.result ≡ holds_others (slice_get rows place) one.runs =
    c.holds_others-one.ensures
    ∙ ap (λ row. holds_others row c.as_slice.result.now) c.row_at.ensures
    ∙ ap (λ (runs : List Run). holds_others (slice_get rows place) runs) c.as_slice.ensures in
    let With : Bool → Played = λ b. record one { called = b } in
    calls_go_on rows c.args.played.now c.loop-place.played place default (With c.holds_others-one.result)
    within c.loop-place-test.true (ap With calls) c.loop-place.invariant
