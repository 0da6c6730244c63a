use Rattle.std.proofs.Common.{rules, ◌≡◌, false, true, length, ap, subst, sym, ◌∙◌, get_or, Some}
use Rattle.std.proofs.lemmas.List.{get_or_default}
use Rattle.std.specs.List.{list_all}
use Rattle.backfill_planner.specs.declared.job.PlanJob.{PlanJob}
use Rattle.plan_keeper.specs.Steady.{IsSameFrom}
use Rattle.plan_keeper.specs.Marks.{FindsId}
use Rattle.plan_keeper.proofs.Listing.{all-unchanged}
use Rattle.plan_keeper.proofs.SameFrom.{same-id}
use Rattle.plan_keeper.proofs.Settled.{only-place}
use Rattle.plan_keeper.proofs.marks.Marks.place_of.Goals as goal
use Rattle.plan_keeper.proofs.marks.Marks.place_of.Goals.{then-index-via-then-index, then-index-via-else-index+then-not-has_all, then-index-via-else-index+else-not-has_all+then-not-is_same_from}

pub returns-then-index-clause-none : goal.returns-then-index-clause-none
returns-then-index-clause-none c before once fits =
    let old = c.args.old.now in
    let place = c.in-Some.place.now in
    let job = c.args.job.now in
    let now = c.args.now in
    let found : FindsId old (length old) job.id (Some place) = rw (← c.in-Some.ensures.value) at (c.requires.listed.finds job.id) in
    let here : place ≡ before = only-place old place before job.id found.0 once found.1 (λ d. same-id now (get_or old before d) job (fits.is d)) job in
    elim c.then-index.branch [
      | then-index-via-then-index w ↦
          let met : get_or c.args.self.now.met.items place c.index.result.now ≡ true = sym c.index.ensures ∙ w.if-index.true in
          let fresh : get_or c.args.self.now.met.items place c.index.result.now ≡ false = get_or_default c.args.self.now.met.items place c.index.result.now false (rw c.requires.met found.0) ∙ ap (λ p. get_or c.args.self.now.met.items p false) here ∙ fits.fresh in
          let wrong = sym met ∙ fresh in
          absurd cc
      | then-index-via-else-index+then-not-has_all w ↦
          let unchanged : list_all (λ node. get_or c.args.self.now.unchanged.nodes.items node false) job.nodes ≡ true = all-unchanged c.args.self.now.unchanged.nodes.items job.nodes fits.unchanged in
          let same : w.has_all.result ≡ true = search (rules, unchanged) in
          absurd (search (rules, same))
      | then-index-via-else-index+else-not-has_all+then-not-is_same_from w ↦
          let there : IsSameFrom now w.index-old-place.result job = subst (λ (one : PlanJob). IsSameFrom now one job) (sym (w.index-old-place.is ∙ ap (λ p. get_or old p w.index-old-place.result) here)) (fits.is w.index-old-place.result) in
          let same : w.is_same_from.result ≡ true = search (rules, there) in
          absurd (search (rules, same))
    ]
