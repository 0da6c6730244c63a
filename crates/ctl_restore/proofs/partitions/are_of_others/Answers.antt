use Rattle.std.proofs.Common.{refl}
use Rattle.std.specs.Prelude.{◌≢◌}
use Rattle.std.proofs.lemmas.List.{take_all}
use Rattle.saved_data.specs.declared.parts.SavedPartition.{SavedPartition}
use Rattle.std.proofs.lemmas.Bool.{both_ways}
use Rattle.ctl_restore.proofs.Seen.{pairs-at, pairs-next}
use Rattle.ctl_restore.proofs.partitions.are_of_others.Goals as goal

pub returns-then-not-is_other : goal.returns-then-not-is_other
returns-then-not-is_other c = (
  λ yes. absurd (let never = yes in cc),
  λ apart. absurd (both_ways c.is_other.result c.if-not-is_other.true (c.is_other.ensures.1
      (pairs-at (λ (one other : SavedPartition). one.name ≢ other.name) c.args.lines.now c.loop-place.place
      c.index-lines-place.result c.loop-place-test.true c.index-lines-place.is apart))),
)

pub loop-place-preserved : goal.loop-place-preserved
loop-place-preserved c =
    pairs-next (λ (one other : SavedPartition). one.name ≢ other.name) c.args.lines.now c.loop-place.place
    c.index-lines-place.result c.loop-place-test.true c.index-lines-place.is c.loop-place.invariant
    (c.is_other.ensures.0 c.if-not-is_other.false)

pub returns : goal.returns
returns c = (
  λ yes. rw (take_all c.loop-place.place c.args.lines.now c.loop-place-test.false) at c.loop-place.invariant,
  λ all. refl,
)
