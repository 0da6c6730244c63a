-- What the plan of a list begins with.
use Rattle.std.specs.Prelude.{◌≡◌, ℕ, zero, suc, List, [], ◌∷◌, ◌++◌, length, take, Option, Some, None, option_to_list, refl}
use Rattle.std.proofs.Common.{ap}
use Rattle.backfill_planner.specs.declared.Placed.{Placed}
use Rattle.backfill_planner.specs.declared.job.PlanJob.{PlanJob}
use Rattle.backfill_planner.specs.Bases.{BaseView}
use Rattle.backfill_planner.specs.Plans.{placed_of, holds_of, plan_beside, plan_of}

take-joined : (placed : Option Placed) (some all : List Placed) → some ≡ take (length some) all
    → option_to_list placed ++ some ≡ take (length (option_to_list placed ++ some)) (option_to_list placed ++ all)
take-joined None some all same = same
take-joined (Some placed) some all same = ap (λ later. placed ∷ later) same

plan_beside-take : (base : BaseView) (now : ℕ) (holds : List _) (first : ℕ) (ranked : List PlanJob)
    → plan_beside base now holds (take first ranked)
    ≡ take (length (plan_beside base now holds (take first ranked))) (plan_beside base now holds ranked)
unfolding plan_beside
plan_beside-take base now holds zero ranked = refl
plan_beside-take base now holds (suc first) [] = refl
plan_beside-take base now holds (suc first) (job ∷ later) =
    let placed = placed_of base.rooms holds job now base.horizon in
    take-joined placed _ _ (plan_beside-take base now (holds ++ holds_of job placed) first later)

pub plan_of-take : (base : BaseView) (ranked : List PlanJob) (now first : ℕ)
    → plan_of base (take first ranked) now ≡ take (length (plan_of base (take first ranked) now)) (plan_of base ranked now)
unfolding plan_of
plan_of-take base ranked now first = plan_beside-take base now base.holds first ranked
