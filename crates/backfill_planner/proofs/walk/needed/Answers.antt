use Rattle.std.proofs.Common.{◌≡◌, ◌++◌, ◌∷◌, [], ◌+◌, ◌-◌, false, reverse, take, drop, arith, sym, ◌∙◌, is_some}
use Rattle.std.proofs.Math.Nat.{div-mul-le_self}
use Rattle.std.proofs.lemmas.Nat.{le-div}
use Rattle.std.proofs.lemmas.List.{reverse-append}
use Rattle.resource_profile.specs.Profiles.{AreWithin}
use Rattle.backfill_planner.specs.Plans.{placement_at}
use Rattle.backfill_planner.specs.Walking.{AreAlike, IsWalked}
use Rattle.backfill_planner.proofs.Places.{all_of}
use Rattle.backfill_planner.proofs.Walks.{begin-walk, given-walk, alike-walk, gone-walk, end-walk, run-within}
use Rattle.backfill_planner.proofs.walk.needed.Goals.{then-branch, else-branch+then-first-low-gt1, else-branch+else-first-low-gt1+in_ok-push}
use Rattle.backfill_planner.proofs.walk.needed.Goals as goal

pub loop-first-init : goal.loop-first-init
loop-first-init c = record {
  walked = rw (c.requires.count, c.requires.holds, c.new-gone.ensures.items) (begin-walk c.args.base.now.rooms c.args.base.now.holds c.args.going.now c.args.job.now c.args.now);
  rooms = c.requires.rooms;
  some = omega arith;
  few = omega arith;
}

pub give_back-requires-clause-within : goal.give_back-requires-clause-within
give_back-requires-clause-within c =
    let rooms = c.args.base.now.rooms in
    let stay = c.args.base.now.holds in
    let going = c.args.going.now in
    let later = reverse c.loop-first.gone.items in
    let held = c.loop-first.profile.holds in
    let low = c.loop-first.first - c.min.result in
    let count = c.loop-first.first - low in
    let whole : low + count ≡ c.loop-first.first = omega arith in
    let walked : IsWalked rooms stay going c.args.job.now c.args.now (low + count) later held = rw whole c.loop-first.invariant.walked in
    let within : AreWithin rooms held = rw (c.holds.ensures.holds, c.loop-first.invariant.rooms) at c.holds.ensures.within in
    rw (c.deref.ensures.value, c.in_ok-holds.ensures) (run-within rooms stay going c.args.job.now c.args.now low count later held walked c.requires.within within)

pub loop-first-preserved : goal.loop-first-preserved
loop-first-preserved c =
    let rooms = c.args.base.now.rooms in
    let stay = c.args.base.now.holds in
    let going = c.args.going.now in
    let job = c.args.job.now in
    let now = c.args.now in
    let first = c.loop-first.first in
    let later = reverse c.loop-first.gone.items in
    let held = c.loop-first.profile.holds in
    let low = first - c.min.result in
    let count = first - low in
    let whole : low + count ≡ first = omega arith in
    let walked : IsWalked rooms stay going job now (low + count) later held = rw whole c.loop-first.invariant.walked in
    let run = all_of (take count (drop low going)) in
    let run_is : c.deref.result.now ≡ run = c.deref.ensures.value ∙ c.in_ok-holds.ensures in
    let fits : c.in_ok-give_back.field-0 ≡ is_some (placement_at rooms (held ++ run) job now) = rw run_is at c.in_ok-give_back.ensures.fits in
    elim c.if-branch.branch [
      | then-branch w ↦
          let new_is : c.give_back.new.profile.holds ≡ held ++ c.deref.result.now = rw w.if-branch.true at c.in_ok-give_back.ensures.given in
          record {
            walked = rw (w.first-is, w.gone-is, new_is, run_is) (given-walk c.requires.laws rooms stay going job now low count later held walked (sym w.if-branch.true ∙ fits));
            rooms = c.give_back.ensures.rooms;
            some = omega (arith, w.most-is, w.min-most.ensures, c.loop-first.invariant.some);
            few = omega (arith, w.most-is, w.min-most.ensures);
          }
      | else-branch+then-first-low-gt1 w ↦
          let alike : AreAlike c.give_back.new.profile.holds held = rw w.if-branch.false at c.in_ok-give_back.ensures.kept in
          record {
            walked = rw (w.first-is, w.gone-is) (alike-walk rooms stay going job now first later held c.give_back.new.profile.holds c.loop-first.invariant.walked alike);
            rooms = c.give_back.ensures.rooms;
            some = rw w.most-is (le-div 1 count 2 (omega arith) (omega (arith, w.if-first-low-gt1.true)));
            few = rw w.most-is (omega (arith, div-mul-le_self count 2, c.min.ensures, c.loop-first.invariant.few));
          }
      | else-branch+else-first-low-gt1+in_ok-push w ↦
          let alike : AreAlike c.give_back.new.profile.holds held = rw w.if-branch.false at c.in_ok-give_back.ensures.kept in
          let one : count ≡ 1 = omega (arith, w.if-first-low-gt1.false, c.min.ensures, c.loop-first-test.true, c.loop-first.invariant.some) in
          let walked_one : IsWalked rooms stay going job now (low + 1) later held = rw one at walked in
          let lacks : false ≡ is_some (placement_at rooms (held ++ all_of (take 1 (drop low going))) job now) = rw one at (sym w.if-branch.false ∙ fits) in
          let gone_walked = gone-walk c.requires.laws rooms stay going job now low later held walked_one lacks in
          let turned = reverse-append c.loop-first.gone.items (low ∷ []) in
          record {
            walked = rw (w.first-is, w.gone-is, w.in_ok-push.ensures.items, turned) (alike-walk rooms stay going job now low (low ∷ later) held c.give_back.new.profile.holds gone_walked alike);
            rooms = c.give_back.ensures.rooms;
            some = omega (arith, w.most-is, c.loop-first.invariant.some);
            few = omega (arith, w.most-is, c.loop-first.invariant.few);
          }
    ]

pub returns : goal.returns
returns c =
    let rooms = c.args.base.now.rooms in
    let stay = c.args.base.now.holds in
    let going = c.args.going.now in
    let none : c.loop-first.first ≡ 0 = omega (arith, c.loop-first-test.false) in
    let walked : IsWalked rooms stay going c.args.job.now c.args.now 0 (reverse c.loop-first.gone.items) c.loop-first.profile.holds = rw none at c.loop-first.invariant.walked in
    rw c.requires.count (c.reverse.ensures.items ∙ end-walk rooms stay going c.args.job.now c.args.now (reverse c.loop-first.gone.items) c.loop-first.profile.holds walked)
