use Rattle.std.proofs.Common.{◌≡◌, ◌∙◌, refl, sym, true, bytes_eq, take, None}
use Rattle.std.specs.Prelude.{◌≢◌}
use Rattle.std.specs.List.{position}
use Rattle.std.proofs.lemmas.List.{take_all}
use Rattle.saved_data.specs.declared.parts.SavedNode.{SavedNode}
use Rattle.ctl_restore.proofs.Finding.{first-more}
use Rattle.ctl_restore.proofs.Seen.{named-apart, named-twice, pairs-next}
use Rattle.ctl_restore.proofs.standings.places_by_name.Goals as goal

pub returns-in-Some-clause-once : goal.returns-in-Some-clause-once
returns-in-Some-clause-once c = (
  λ some. absurd (let never = some in cc),
  λ apart. absurd (named-twice (λ (line : SavedNode). line.name) c.args.lines.now c.loop-place.place
      c.index-lines-place.result c.in-Some._place c.loop-place-test.true c.index-lines-place.is
      (sym (c.loop-place.invariant.places c.index-lines-place.result.name) ∙ sym c.place_of.ensures ∙ c.in-Some.is) apart),
)

pub loop-place-preserved : goal.loop-place-preserved
loop-place-preserved c =
    let lines = c.args.lines.now in
    let place = c.loop-place.place in
    let line = c.index-lines-place.result in
    let none : position (λ (one : SavedNode). bytes_eq one.name line.name) (take place lines) ≡ None =
    sym (c.loop-place.invariant.places line.name) ∙ sym c.place_of.ensures ∙ c.in_default.is in
    record {
      places = λ name.
          first-more (λ (line : SavedNode). true) (λ (line : SavedNode). line.name) lines place line name
          c.in_ok-copy.field-0 _ _ c.loop-place-test.true c.index-lines-place.is refl c.in_ok-copy.ensures none
          (c.loop-place.invariant.places name) (c.in_ok-insert.ensures.updates.0 name);
      once = pairs-next (λ (one other : SavedNode). one.name ≢ other.name) lines place line c.loop-place-test.true
          c.index-lines-place.is c.loop-place.invariant.once
          (named-apart (λ (line : SavedNode). line.name) (take place lines) line none);
    }

pub returns-clause-once : goal.returns-clause-once
returns-clause-once c = (
  λ some. rw (take_all c.loop-place.place c.args.lines.now c.loop-place-test.false) at c.loop-place.invariant.once,
  λ all. refl,
)
