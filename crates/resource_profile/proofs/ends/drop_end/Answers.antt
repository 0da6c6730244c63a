use Rattle.std.proofs.Common.{◌-◌}
use Rattle.resource_profile.proofs.EndEdits.{last-at, lowered-counts, remove-has, remove-counts}
use Rattle.resource_profile.proofs.ends.drop_end.Goals as goal

pub overflow_sub-place : goal.overflow_sub-place
overflow_sub-place c =
    let ends = c.args.ends.now.items in
    let place = c.passed-place.result in
    let is = last-at ends place c.args.moment c.requires.ends c.requires.has (rw c.deref.ensures.value at c.passed-place.ensures.bound)
    (rw c.deref.ensures.value at c.passed-place.ensures.before) (rw c.deref.ensures.value at c.passed-place.ensures.after) in
    is.some

pub returns-then-index-gt1-clause-counted : goal.returns-then-index-gt1-clause-counted
returns-then-index-gt1-clause-counted c = λ other.
    let ends = c.args.ends.now.items in
    let place = c.passed-place.result in
    let is = last-at ends place c.args.moment c.requires.ends c.requires.has (rw c.deref.ensures.value at c.passed-place.ensures.bound)
    (rw c.deref.ensures.value at c.passed-place.ensures.before) (rw c.deref.ensures.value at c.passed-place.ensures.after) in
    lowered-counts ends place c.args.moment other c.index_mut.result.now c.requires.ends is c.index_mut.ensures.value

pub returns-clause-ends : goal.returns-clause-ends
returns-clause-ends c =
    let ends = c.args.ends.now.items in
    let place = c.passed-place.result in
    let is = last-at ends place c.args.moment c.requires.ends c.requires.has (rw c.deref.ensures.value at c.passed-place.ensures.bound)
    (rw c.deref.ensures.value at c.passed-place.ensures.before) (rw c.deref.ensures.value at c.passed-place.ensures.after) in
    rw c.remove.ensures.items (remove-has ends (place - 1) c.requires.ends is.within)

pub returns-clause-counted : goal.returns-clause-counted
returns-clause-counted c = λ other.
    let ends = c.args.ends.now.items in
    let place = c.passed-place.result in
    let is = last-at ends place c.args.moment c.requires.ends c.requires.has (rw c.deref.ensures.value at c.passed-place.ensures.bound)
    (rw c.deref.ensures.value at c.passed-place.ensures.before) (rw c.deref.ensures.value at c.passed-place.ensures.after) in
    rw c.remove.ensures.items (remove-counts ends place c.args.moment other c.index.result.now c.requires.ends is c.index.ensures c.if-index-gt1.false)
