use Rattle.std.proofs.Common.{◌≡◌, ◌≢◌, ◌-◌, ◌≤◌, ◌<◌, length, get_or, arith, sym, ◌∙◌}
use Rattle.std.specs.List.{insert}
use Rattle.std.proofs.lemmas.List.{get_or_default}
use Rattle.resource_profile.specs.declared.ends.End.{End}
use Rattle.resource_profile.proofs.EndEdits.{insert-has}
use Rattle.resource_profile.proofs.ends.add_end.Goals as goal
use Rattle.resource_profile.proofs.ends.add_end.Goals.{else-place-gt0-via-then-place-gt0+else-index-moment, else-place-gt0-via-else-place-gt0}

pub returns-clause-ends : goal.returns-clause-ends
returns-clause-ends c =
    let ends = c.args.ends.now.items in
    let place = c.passed-place.result in
    let new : End = record { moment = c.args.moment; count = 1 } in
    let bound : place ≤ length ends = rw c.deref.ensures.value at c.passed-place.ensures.bound in
    let apart : (d : End) → 0 < place → (get_or ends (place - 1) d).moment ≢ c.args.moment = λ d some. elim c.else-place-gt0.branch [
      | else-place-gt0-via-then-place-gt0+else-index-moment w ↦
          let here = get_or_default ends (place - 1) d w.index.result.now (omega (arith, some, bound)) ∙ sym w.index.ensures in
          rw here w.if-index-moment.false
      | else-place-gt0-via-else-place-gt0 w ↦ absurd (omega (arith, some, w.if-place-gt0.false))
    ] in
    let inserted : c.insert.new.self.items ≡ insert ends place new = rw c.unwrap.ensures at c.insert.ensures.items in
    rw inserted (insert-has ends place new c.requires.ends bound (omega arith)
    (rw c.deref.ensures.value at c.passed-place.ensures.before) (rw c.deref.ensures.value at c.passed-place.ensures.after) apart)
