use Rattle.std.proofs.Common.{◌≡◌, ◌∷◌, [], ◌++◌, arith, ap, sym, ◌∙◌}
use Rattle.std.proofs.lemmas.Bool.{leb-true}
use Rattle.backfill_planner.specs.Bases.{BaseView}
use Rattle.plan_keeper.proofs.Stillness.{stands-first}
use Rattle.plan_keeper.proofs.unmoved.first_standing.Goals as goal
use Rattle.plan_keeper.proofs.unmoved.first_standing.Goals.{then-now-last, else-now-last}

pub returns : goal.returns
returns c =
    let old = c.args.old.now in
    let base = c.args.base.now in
    let last_is : c.behind-old.inside.horizon ≡ old.base.horizon = ap (λ (b : BaseView). b.horizon) (c.behind-old.view_is ∙ c.base.ensures) in
    let hi_is : c.base-2.inside.horizon ≡ base.horizon = ap (λ (b : BaseView). b.horizon) c.base-2.view_is in
    let counts_are : c.push.new.self.items ≡ 0 ∷ [] = c.in_ok-push.ensures.items ∙ ap (λ some. some ++ 0 ∷ []) c.in_ok-counts.ensures.items in
    elim c.if-now-last.branch [
      | then-now-last w ↦
          let holds_are : w.as_slice.result.now ≡ base.holds = w.as_slice.ensures ∙ ap (λ (b : BaseView). b.holds) c.base-2.view_is in
          stands-first old base c.args.ranked.now c.args.now c.push.new.self.items c.if-now-last.result c.requires.alike counts_are
          (λ is. omega (arith, last_is, w.if-now-last.true))
          (λ is. rw (last_is, hi_is, holds_are) at (w.no_hold_ends.ensures (sym w.result-is ∙ is)))
      | else-now-last w ↦
          stands-first old base c.args.ranked.now c.args.now c.push.new.self.items c.if-now-last.result c.requires.alike counts_are
          (λ is. omega (arith, last_is, leb-true c.args.now c.behind-old.inside.horizon (sym w.result-is ∙ is)))
          (λ is. absurd (omega (arith, w.if-now-last.false, leb-true c.args.now c.behind-old.inside.horizon (sym w.result-is ∙ is))))
    ]
