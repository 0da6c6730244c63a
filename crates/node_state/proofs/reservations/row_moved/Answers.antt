use Rattle.std.proofs.Common.{◌∙◌, ◌++◌, ◌∷◌, [], Bool, cond, ℕ, ap, sym, append-nil}
use Rattle.std.specs.Prelude.{None, filter, slice_index_or}
use Rattle.std.specs.List.{range_with_len}
use Rattle.node_state.specs.Moving.{was_in}
use Rattle.node_state.proofs.Moved.{row-below, row-more}
use Rattle.node_state.proofs.reservations.row_moved.Goals as goal
use Rattle.node_state.proofs.reservations.row_moved.Goals.{then-was_in, else-was_in}

pub loop-place-preserved : goal.loop-place-preserved
loop-place-preserved c =
    let place = c.loop-place.place in
    let test : ℕ → Bool = λ place. was_in c.args.row.now (slice_index_or c.args.origins.now place None) in
    let row = filter test (range_with_len 0 place) in
    let more = row-more test place in
    elim c.if-was_in.branch [
      | then-was_in w ↦
          rw w.moved-is
          (w.insert.ensures.last (rw c.loop-place.invariant (row-below test place))
          ∙ ap (λ moved. moved ++ place ∷ []) c.loop-place.invariant
          ∙ ap (λ b. row ++ cond b (place ∷ []) []) (sym w.if-was_in.true ∙ c.was_in.ensures) ∙ sym more)
      | else-was_in w ↦
          rw w.moved-is
          (c.loop-place.invariant ∙ sym (append-nil row)
          ∙ ap (λ b. row ++ cond b (place ∷ []) []) (sym w.if-was_in.false ∙ c.was_in.ensures) ∙ sym more)
    ]
