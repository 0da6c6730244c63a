use Rattle.std.proofs.Common.{rules, ◌≡◌, nat_eq, leb, length, ap, subst, sym, ◌∙◌, get_or, inl, inr, Some}
use Rattle.std.specs.Prelude.{option_copied}
use Rattle.std.specs.HashMap.{get}
use Rattle.std.proofs.lemmas.Bool.{cases_Bool, leb-true}
use Rattle.std.proofs.lemmas.List.{get_or_default}
use Rattle.backfill_planner.specs.declared.job.PlanJob.{PlanJob}
use Rattle.plan_keeper.specs.Marks.{FindsId}
use Rattle.plan_keeper.proofs.Passed.{past-found}
use Rattle.plan_keeper.proofs.places.Places.is_gone.Goals as goal

pub returns-in-Some : goal.returns-in-Some
returns-in-Some c =
    let old = c.args.old.now in
    let ranked = c.args.ranked.now in
    let before = c.args.before in
    let job = c.index-old-before.result in
    let place = c.in-Some.place.now in
    let id = (get_or old before job).id in
    let found : get nat_eq c.args.self.now.new id ≡ Some place = sym c.get.ensures.value ∙ ap (λ some. option_copied some) c.in-Some.is in
    let finds : FindsId ranked (length ranked) id (Some place) = subst (λ some. FindsId ranked (length ranked) id some) found (c.requires.new id) in
    let ids : (d : PlanJob) → (get_or ranked place d).id ≡ (get_or old before d).id = λ d. finds.1 d ∙ ap (λ (one : PlanJob). one.id) (get_or_default old before job d c.requires.there) in
    elim (cases_Bool (leb place c.args.index)) [
      | inl few ↦ rw few (past-found c.args.now old ranked before c.args.index place c.requires.apart finds.0 ids (leb-true place c.args.index few))
      | inr more ↦ rw more (search rules)
    ]
