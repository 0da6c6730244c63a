use Rattle.std.proofs.Common.{◌∙◌, eqb, if◌then◌else◌, true, refl, sym, ap}
use Rattle.std.proofs.lemmas.List.{take_all}
use Rattle.backfill_planner.specs.declared.Placed.{Placed}
use Rattle.ctl_restore.proofs.Seen.{pairs-more, seen-more, seen-twice, swapped}
use Rattle.ctl_restore.proofs.plan.names_once.Goals as goal

pub returns-then-was_seen : goal.returns-then-was_seen
returns-then-was_seen c = (
  λ yes. absurd (let never = yes in cc),
  λ apart. absurd (seen-twice (λ (placed : Placed). placed.id) c.args.plan.now c.loop-placed.placed-index
      c.placed-item.result c.loop-placed-test.true c.placed-item.is
      (sym (c.loop-placed.invariant.seen c.placed-item.result.id) ∙ sym c.was_seen.ensures ∙ c.if-was_seen.true) apart),
)

pub loop-placed-preserved : goal.loop-placed-preserved
loop-placed-preserved c = record {
  seen = λ id.
      c.in_ok-insert.ensures.updates.0 id
      ∙ ap (λ was. if eqb c.placed-item.result.id id then true else was) (c.loop-placed.invariant.seen id)
      ∙ swapped (eqb c.placed-item.result.id id) _
      ∙ sym (seen-more (λ (placed : Placed). placed.id) c.args.plan.now c.loop-placed.placed-index id
      c.placed-item.result c.loop-placed-test.true c.placed-item.is);
  once = pairs-more (λ (placed : Placed). placed.id) c.args.plan.now c.loop-placed.placed-index c.placed-item.result
      c.loop-placed-test.true c.placed-item.is
      (sym (c.loop-placed.invariant.seen c.placed-item.result.id) ∙ sym c.was_seen.ensures ∙ c.if-was_seen.false)
      c.loop-placed.invariant.once;
}

pub returns : goal.returns
returns c = (
  λ yes. rw (take_all c.loop-placed.placed-index c.args.plan.now c.loop-placed-test.false) at c.loop-placed.invariant.once,
  λ all. refl,
)
