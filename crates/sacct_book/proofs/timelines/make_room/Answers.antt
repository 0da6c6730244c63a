use Rattle.std.proofs.Common.{◌≡◌, ◌<◌, ◌∙◌, length, arith, inl, inr}
use Rattle.std.proofs.lemmas.Bool.{cases_lt}
use Rattle.std.proofs.lemmas.List.{get_or-set_other, get_or-set_same}
use Rattle.sacct_book.specs.Times.{times_of}
use Rattle.sacct_book.proofs.Setting.{map_set-same}
use Rattle.sacct_book.proofs.timelines.make_room.Goals as goal

pub returns-in_err-make_room-clause-same : goal.returns-in_err-make_room-clause-same
returns-in_err-make_room-clause-same c =
    let inside : c.loop-place.place < length c.loop-place.timelines.items =
    omega (arith, c.loop-place-test.true, c.loop-place.timelines.ok.0) in
    map_set-same times_of c.loop-place.timelines.items c.loop-place.place c.index_mut.result.now c.make_room.new.self
    inside c.index_mut.ensures.value c.make_room.ensures.same
    ∙ c.loop-place.invariant.same

pub loop-place-preserved : goal.loop-place-preserved
loop-place-preserved c =
    let place = c.loop-place.place in
    let items = c.loop-place.timelines.items in
    let inside : place < length items = omega (arith, c.loop-place-test.true, c.loop-place.timelines.ok.0) in
    record {
      len = c.loop-place.invariant.len;
      same = map_set-same times_of items place c.index_mut.result.now c.make_room.new.self inside
          c.index_mut.ensures.value c.make_room.ensures.same
          ∙ c.loop-place.invariant.same;
      room = λ k d below. elim (cases_lt k place) [
        | inl before ↦
            rw (get_or-set_other items place k c.make_room.new.self d (omega (arith, before)))
            (c.loop-place.invariant.room k d before)
        | inr not_before ↦
            let is : k ≡ place = omega (arith, below, not_before) in
            rw (is, get_or-set_same items place c.make_room.new.self d inside) c.in_ok-make_room.ensures.room
      ];
    }
