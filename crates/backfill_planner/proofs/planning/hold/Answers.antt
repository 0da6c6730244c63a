use Rattle.std.proofs.Common.{◌≡◌, ◌∷◌, ◌<◌, length, get_or, Some, arith, ap, sym, ◌∙◌}
use Rattle.std.specs.List.Sorted.{IsPermutation}
use Rattle.std.proofs.lemmas.List.Sorted.{IsPermutation-to_front, IsPermutation-sym}
use Rattle.backfill_planner.specs.declared.Share.{Share}
use Rattle.backfill_planner.specs.Plans.{holds_of}
use Rattle.backfill_planner.proofs.Adding.{hold_of_share, length-holds, hold-read, free-read, moved-more, free-more}
use Rattle.backfill_planner.proofs.planning.hold.Goals as goal

pub hold-requires : goal.hold-requires
hold-requires c =
    let job = c.args.job.now in
    let placed = c.args.placed.now in
    let shares = c.as_slice-share-items.result.now in
    let i = c.loop-share.share-index in
    let until = c.window_end-until.result in
    let none : Share = record { node = 0; tasks = 0; cpus = 0; mem = 0 } in
    let hold = hold_of_share placed.start until (get_or shares i none) in
    let below : i < length placed.parts = rw c.as_slice-share-items.ensures at c.loop-share-test.true in
    let read : get_or (holds_of job (Some placed)) i hold ≡ hold =
    hold-read job placed i until none hold c.window_end-until.ensures.end below ∙ ap (λ s. hold_of_share placed.start until (get_or s i none)) (sym c.as_slice-share-items.ensures) in
    (free-read c.loop-share.profile.rooms c.loop-share.profile.holds (holds_of job (Some placed)) i hold c.loop-share.invariant.free (omega (arith, below, length-holds job placed)) read)

pub loop-share-preserved : goal.loop-share-preserved
loop-share-preserved c =
    let job = c.args.job.now in
    let placed = c.args.placed.now in
    let held = holds_of job (Some placed) in
    let shares = c.as_slice-share-items.result.now in
    let i = c.loop-share.share-index in
    let until = c.window_end-until.result in
    let none : Share = record { node = 0; tasks = 0; cpus = 0; mem = 0 } in
    let hold = hold_of_share placed.start until (get_or shares i none) in
    let below : i < length placed.parts = rw c.as_slice-share-items.ensures at c.loop-share-test.true in
    let in_held : i < length held = omega (arith, below, length-holds job placed) in
    let read : get_or held i hold ≡ hold =
    hold-read job placed i until none hold c.window_end-until.ensures.end below ∙ ap (λ s. hold_of_share placed.start until (get_or s i none)) (sym c.as_slice-share-items.ensures) in
    let added : IsPermutation (hold ∷ c.loop-share.profile.holds) c.hold.new.self.holds = rw c.in_ok-hold.ensures.holds (IsPermutation-sym _ _ (IsPermutation-to_front c.loop-share.profile.holds hold)) in
    let same_rooms : c.hold.new.self.rooms ≡ c.loop-share.profile.rooms = c.hold.ensures.rooms in
    record {
      rooms = same_rooms ∙ c.loop-share.invariant.rooms;
      moved = moved-more c.args.profile.now.holds held c.loop-share.profile.holds c.hold.new.self.holds i hold c.loop-share.invariant.moved added in_held read;
      free = rw same_rooms (free-more c.loop-share.profile.rooms held c.loop-share.profile.holds c.hold.new.self.holds i hold c.loop-share.invariant.free c.requires.apart added in_held read);
    }
