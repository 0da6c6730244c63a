-- The plan goes on job by job.
use Rattle.std.proofs.Common.{◌≡◌, ℕ, ◌+◌, ◌<◌, suc, List, [], ◌∷◌, ◌++◌, length, take, arith, refl, ap, sym, ◌∙◌, append_assoc, get_or}
use Rattle.std.specs.Prelude.{option_to_list}
use Rattle.std.proofs.lemmas.List.{append-nil, take_more}
use Rattle.resource_profile.specs.declared.Hold.{Hold}
use Rattle.resource_profile.specs.Counts.{ticked}
use Rattle.backfill_planner.specs.declared.job.PlanJob.{PlanJob}
use Rattle.backfill_planner.specs.Bases.{BaseView}
use Rattle.backfill_planner.specs.Plans.{placed_of, holds_of, plan_beside, plan_of, plan_holds_beside, plan_holds_of, holds_before, placement_of}

-- a job behind some others is planned beside what these hold
plan_beside-behind : (base : BaseView) (now : ℕ) (holds : List Hold) (jobs : List PlanJob) (job : PlanJob) → plan_beside base now holds (jobs ++ job ∷ []) ≡ plan_beside base now holds jobs ++ option_to_list (placed_of base.rooms (holds ++ plan_holds_beside base now holds jobs) job now base.horizon)
unfolding plan_beside plan_holds_beside
plan_beside-behind base now holds [] job = rw (append-nil, append-nil) refl
plan_beside-behind base now holds (first ∷ jobs) job =
    let placed = placed_of base.rooms holds first now base.horizon in
    let mine = holds_of first placed in
    ap (λ later. option_to_list placed ++ later) (plan_beside-behind base now (holds ++ mine) jobs job)
    ∙ rw (append_assoc holds mine (plan_holds_beside base now (holds ++ mine) jobs))
    (sym (append_assoc (option_to_list placed) (plan_beside base now (holds ++ mine) jobs) _))

holds_beside-behind : (base : BaseView) (now : ℕ) (holds : List Hold) (jobs : List PlanJob) (job : PlanJob) → plan_holds_beside base now holds (jobs ++ job ∷ []) ≡ plan_holds_beside base now holds jobs ++ holds_of job (placed_of base.rooms (holds ++ plan_holds_beside base now holds jobs) job now base.horizon)
unfolding plan_holds_beside
holds_beside-behind base now holds [] job = rw (append-nil, append-nil) refl
holds_beside-behind base now holds (first ∷ jobs) job =
    let placed = placed_of base.rooms holds first now base.horizon in
    let mine = holds_of first placed in
    ap (λ later. mine ++ later) (holds_beside-behind base now (holds ++ mine) jobs job)
    ∙ rw (append_assoc holds mine (plan_holds_beside base now (holds ++ mine) jobs))
    (sym (append_assoc mine (plan_holds_beside base now (holds ++ mine) jobs) _))

-- the plan of one job more
pub plan-next : (base : BaseView) (ranked : List PlanJob) (now place : ℕ) (job : PlanJob) → place < length ranked → get_or ranked place job ≡ job → plan_of base (take (place + 1) ranked) now ≡ plan_of base (take place ranked) now ++ option_to_list (placement_of base ranked now place job)
unfolding plan_of plan_holds_of
plan-next base ranked now place job below is =
    ap (λ jobs. plan_beside base now base.holds jobs) (take_more ranked place job below ∙ ap (λ one. take place ranked ++ one ∷ []) is)
    ∙ plan_beside-behind base now base.holds (take place ranked) job

-- and what is held then
pub holds-next : (base : BaseView) (ranked : List PlanJob) (now place : ℕ) (job : PlanJob) → place < length ranked → get_or ranked place job ≡ job → holds_before base ranked now (place + 1) ≡ holds_before base ranked now place ++ holds_of job (placement_of base ranked now place job)
unfolding plan_holds_of
holds-next base ranked now place job below is =
    ap (λ held. base.holds ++ held)
    (ap (λ jobs. plan_holds_beside base now base.holds jobs) (take_more ranked place job below ∙ ap (λ one. take place ranked ++ one ∷ []) is)
    ∙ holds_beside-behind base now base.holds (take place ranked) job)
    ∙ sym (append_assoc base.holds (plan_holds_beside base now base.holds (take place ranked)) _)

pub ticked-more : (count times : ℕ) → ticked (ticked count times) 1 ≡ ticked count (times + 1)
ticked-more count times = let next : times + 1 ≡ suc times = omega arith in rw next refl
