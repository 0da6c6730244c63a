use Rattle.std.proofs.Common.{inl, inr, arith}
use Rattle.resource_profile.proofs.Walk.{IsUndone, IsOnTheWay-start, IsOnTheWay-take, IsOnTheWay-pass, IsChosen-done, IsChosen-at_end, undone-some}
use Rattle.resource_profile.proofs.choice.completed.Goals as goal
use Rattle.resource_profile.proofs.choice.completed.Goals.{else-wanting-eq0-via-then-wanting-eq0+else-len-need, else-wanting-eq0-via-else-wanting-eq0}
use Rattle.resource_profile.proofs.choice.completed.Goals.{then-admits+in_ok-push, else-admits}
use Rattle.resource_profile.proofs.choice.completed.Goals.{else-loop-place-test, then-loop-place-test+then-wanting-eq0+then-len-need}

pub loop-place-init : goal.loop-place-init
loop-place-init c = IsOnTheWay-start c.args.caps.now c.args.need.now c.args.begun.set.items c.args.begun.wanting c.args.reserve c.requires.begun c.requires.wanting c.requires.reserve c.requires.full c.requires.few c.requires.least c.requires.enough

pub admits-requires-clause-some : goal.admits-requires-clause-some
admits-requires-clause-some c =
    let undone : IsUndone c.args.need.now c.loop-place.set.items c.loop-place.wanting =
    elim c.else-wanting-eq0.branch [
      | else-wanting-eq0-via-then-wanting-eq0+else-len-need w ↦ inr (omega arith)
      | else-wanting-eq0-via-else-wanting-eq0 w ↦ inl (omega arith)
    ] in
    undone-some c.args.caps.now c.args.need.now c.loop-place.place c.loop-place.set.items c.loop-place.wanting c.loop-place.reserve c.loop-place.invariant undone

pub loop-place-preserved : goal.loop-place-preserved
loop-place-preserved c =
    let undone : IsUndone c.args.need.now c.loop-place.set.items c.loop-place.wanting =
    elim c.else-wanting-eq0.branch [
      | else-wanting-eq0-via-then-wanting-eq0+else-len-need w ↦ inr (omega arith)
      | else-wanting-eq0-via-else-wanting-eq0 w ↦ inl (omega arith)
    ] in
    elim c.if-admits.branch [
      | then-admits+in_ok-push w ↦
          let told = w.if-admits.ensures in
          let taken = IsOnTheWay-take c.args.caps.now c.args.need.now c.loop-place.place c.loop-place.set.items c.loop-place.wanting c.loop-place.reserve c.admits.new.self c.loop-place.invariant undone told.reserve told.all told.giving told.count told.enough in
          rw (w.set-is, w.in_ok-push.ensures.items, w.wanting-is, w.saturating_sub-wanting.ensures) taken
      | else-admits w ↦
          let told = w.if-admits.ensures in
          rw (w.set-is, w.wanting-is) (IsOnTheWay-pass c.args.caps.now c.args.need.now c.loop-place.place c.loop-place.set.items c.loop-place.wanting c.loop-place.reserve c.admits.new.self c.loop-place.invariant told.reserve told.all told.same_count told.same_tasks told.not_held told.too_few)
    ]

pub returns : goal.returns
returns c =
    elim c.loop-place-test.branch [
      | else-loop-place-test w ↦ IsChosen-at_end c.args.caps.now c.args.need.now c.loop-place.place c.loop-place.set.items c.loop-place.wanting c.loop-place.reserve c.loop-place.invariant (omega arith)
      | then-loop-place-test+then-wanting-eq0+then-len-need w ↦ IsChosen-done c.args.caps.now c.args.need.now c.loop-place.place c.loop-place.set.items c.loop-place.wanting c.loop-place.reserve c.loop-place.invariant (omega arith) (omega arith)
    ]
