use Rattle.std.proofs.Common.{◌∙◌, sym}
use Rattle.std.proofs.lemmas.Bool.{both_ways}
use Rattle.ctl_restore.proofs.Planned.{ok-then, planned-all, plans}
use Rattle.ctl_restore.proofs.plan.plans_pending.Goals as goal

pub returns-then-not-are_planned : goal.returns-then-not-are_planned
returns-then-not-are_planned c = (
  λ yes. absurd (let never = yes in cc),
  λ plans. absurd (both_ways c.are_planned.result c.if-not-are_planned.true (c.are_planned.ensures
      ∙ planned-all c.args.jobs.now.records c.args.plan.now c.records-records.ensures.rising plans)),
)

pub returns : goal.returns
returns c =
    ok-then c.names_once.result _ (λ sound. _) c.names_once.ensures
    (λ sound is. (
      λ yes. plans c.args.jobs.now.records c.args.plan.now (sym c.are_planned.ensures ∙ c.if-not-are_planned.false) (is.0 yes),
      λ plans. is.1 plans.once,
    ))
