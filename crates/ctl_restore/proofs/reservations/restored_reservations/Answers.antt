use Rattle.std.proofs.Common.{◌≡◌, ◌∙◌, refl}
use Rattle.std.proofs.lemmas.Bool.{both_ways}
use Rattle.std.proofs.lemmas.List.{take_all}
use Rattle.std.proofs.lemmas.List.Elements.{All-more}
use Rattle.ctl_restore.specs.Fits.{HasSeconds}
use Rattle.ctl_restore.specs.Restored.{restored_reservation}
use Rattle.ctl_restore.proofs.Reserved.{fits-line, line-more}
use Rattle.ctl_restore.proofs.reservations.restored_reservations.Goals as goal

pub returns-then-not-fits-clause-some : goal.returns-then-not-fits-clause-some
returns-then-not-fits-clause-some c =
    let f = restored_reservation c.args.nodes.now.records in
    let wanted : c.in-Some.wanted ≡ f c.line-item.result = rw c.in-Some.is at c.in_ok-wanted.ensures.value in (
      λ yes. absurd (let never = yes in cc),
      λ both. absurd (both_ways c.fits.result c.if-not-fits.true (c.fits.ensures.1
          (fits-line f c.args.lines.now c.loop-line.line-index c.line-item.result c.loop-line.reservations c.in-Some.wanted
          c.loop-line-test.true c.line-item.is c.loop-line.invariant.value wanted both.1))),
    )

pub loop-line-preserved : goal.loop-line-preserved
loop-line-preserved c =
    let f = restored_reservation c.args.nodes.now.records in
    let wanted : c.in-Some.wanted ≡ f c.line-item.result = rw c.in-Some.is at c.in_ok-wanted.ensures.value in
    record {
      value = c.in_ok-add.ensures.ok
          ∙ line-more f c.args.lines.now c.loop-line.line-index c.line-item.result c.loop-line.reservations c.in-Some.wanted
          c.loop-line-test.true c.line-item.is c.loop-line.invariant.value wanted;
      seconds = All-more HasSeconds c.args.lines.now c.loop-line.line-index c.line-item.result c.loop-line-test.true
          c.loop-line.invariant.seconds
          (rw (← c.line-item.is) (c.in_ok-wanted.ensures.some.0 (rw c.in-Some.is refl)));
    }

pub returns-clause-some : goal.returns-clause-some
returns-clause-some c =
    let all = take_all c.loop-line.line-index c.args.lines.now c.loop-line-test.false in (
      λ yes. (
        rw all at c.loop-line.invariant.seconds,
        rw (c.loop-line.invariant.value, all) at c.records-records.ensures.kept,
      ),
      λ both. refl,
    )
