-- What the placements that begin at a moment take is held at it.
use Rattle.std.proofs.Common.{◌≡◌, ℕ, ◌+◌, ◌≤◌, ◌<◌, Bool, true, cond, eqb, List, [], ◌∷◌, ◌++◌, map, sum_by, All, arith, refl, ap, inl, inr, Option, Some, None}
use Rattle.std.specs.Prelude.{filter, option_to_list}
use Rattle.std.proofs.lemmas.Bool.{cases_Bool, eqb-true}
use Rattle.std.proofs.lemmas.List.Sums.{sum_by-cons, sum_by-append}
use Rattle.std.proofs.lemmas.List.Elements.{All-nil, All-cons, All-head, All-tail}
use Rattle.resource_profile.specs.declared.Hold.{Hold}
use Rattle.resource_profile.specs.Free.{room_at, covers}
use Rattle.resource_profile.specs.Profiles.{AreWithin}
use Rattle.backfill_planner.proofs.Windows.{covers_at}
use Rattle.backfill_planner.specs.declared.Share.{Share}
use Rattle.backfill_planner.specs.declared.Placed.{Placed}
use Rattle.backfill_planner.specs.declared.job.PlanJob.{PlanJob}
use Rattle.backfill_planner.specs.Bases.{BaseView}
use Rattle.backfill_planner.specs.Giving.{window_end}
use Rattle.backfill_planner.specs.Plans.{placed_of, holds_of, plan_beside, plan_of, plan_holds_beside, plan_holds_of, starts_at}
use Rattle.backfill_planner.specs.Placements.{StartsFit}
use Rattle.backfill_planner.proofs.Adding.{hold_of_share}

-- Of what is counted, processors or megabytes, so much of the node a share takes, and a hold holds at a moment.
abbrev taken : (ℕ → ℕ → ℕ) → ℕ → Share → ℕ
taken counted node share = cond (eqb share.node node) (counted share.cpus share.mem) 0

abbrev held : (ℕ → ℕ → ℕ) → ℕ → ℕ → Hold → ℕ
held counted node moment hold = cond (covers node moment hold) (counted hold.cpus hold.mem) 0

-- what the placements take that begin at the moment
abbrev taken_at : (ℕ → ℕ → ℕ) → ℕ → ℕ → List Placed → ℕ
taken_at counted node now placements = sum_by (λ (placed : Placed). sum_by (taken counted node) placed.parts) (starts_at now placements)

abbrev HasWindow : Hold → Type 0
HasWindow hold = hold.from < hold.until

-- what the parts take is held at the start
parts-held : (counted : ℕ → ℕ → ℕ) (node start until now : ℕ) (parts : List Share) → start ≡ now → All HasWindow (map (λ share. hold_of_share start until share) parts)
    → sum_by (taken counted node) parts ≤ sum_by (held counted node now) (map (λ share. hold_of_share start until share) parts)
parts-held counted node start until now [] same windows = omega arith
parts-held counted node start until now (share ∷ later) same windows =
    let hold = hold_of_share start until share in
    let others = map (λ share. hold_of_share start until share) later in
    let window : start < until = All-head HasWindow hold others windows in
    let rest = parts-held counted node start until now later same (All-tail HasWindow hold others windows) in
    let takes : taken counted node share ≤ held counted node now hold = elim (cases_Bool (eqb share.node node)) [
      | inl on ↦
          let covered : covers node now hold ≡ true = covers_at node now hold (eqb-true share.node node on) (omega (arith, same)) (omega (arith, same, window)) in
          rw (covered, on) (omega arith)
      | inr off ↦ rw off (omega arith)
    ] in
    omega (arith, takes, rest, sum_by-cons (taken counted node) share later, sum_by-cons (held counted node now) hold others)

-- what a placement takes that begins at the moment is held at it
placed-held : (counted : ℕ → ℕ → ℕ) (node now : ℕ) (job : PlanJob) (placed : Option Placed) → All HasWindow (holds_of job placed)
    → taken_at counted node now (option_to_list placed) ≤ sum_by (held counted node now) (holds_of job placed)
placed-held counted node now job None windows = omega arith
placed-held counted node now job (Some placed) windows = elim (cases_Bool (eqb placed.start now)) [
  | inl here ↦ rw here (omega (
    arith,
    sum_by-cons (λ (one : Placed). sum_by (taken counted node) one.parts) placed [],
    parts-held counted node placed.start (window_end job placed.start) now placed.parts (eqb-true placed.start now here) windows,
  ))
  | inr elsewhere ↦ rw elsewhere (omega arith)
]

filter-append : {X : Type 0} (test : X → Bool) (xs ys : List X) → filter test (xs ++ ys) ≡ filter test xs ++ filter test ys
filter-append test [] ys = refl
filter-append test (x ∷ xs) ys = elim (cases_Bool (test x)) [
  | inl passes ↦ rw passes (ap (λ rest. x ∷ rest) (filter-append test xs ys))
  | inr fails ↦ rw fails (filter-append test xs ys)
]

taken-append : (counted : ℕ → ℕ → ℕ) (node now : ℕ) (some later : List Placed) → taken_at counted node now (some ++ later) ≡ taken_at counted node now some + taken_at counted node now later
taken-append counted node now some later =
    rw (filter-append (λ (placed : Placed). eqb placed.start now) some later)
    (sum_by-append (λ (placed : Placed). sum_by (taken counted node) placed.parts) (starts_at now some) (starts_at now later))

All-left : {X : Type 0} (P : X → Type 0) (xs ys : List X) → All P (xs ++ ys) → All P xs
All-left P [] ys all = All-nil P
All-left P (x ∷ xs) ys all = All-cons P x xs (All-head P x (xs ++ ys) all) (All-left P xs ys (All-tail P x (xs ++ ys) all))

All-right : {X : Type 0} (P : X → Type 0) (xs ys : List X) → All P (xs ++ ys) → All P ys
All-right P [] ys all = all
All-right P (x ∷ xs) ys all = All-right P xs ys (All-tail P x (xs ++ ys) all)

plan_beside-held : (counted : ℕ → ℕ → ℕ) (node : ℕ) (base : BaseView) (now : ℕ) (holds : List Hold) (ranked : List PlanJob) → All HasWindow (plan_holds_beside base now holds ranked)
    → taken_at counted node now (plan_beside base now holds ranked) ≤ sum_by (held counted node now) (plan_holds_beside base now holds ranked)
unfolding plan_beside plan_holds_beside
plan_beside-held counted node base now holds [] windows = omega arith
plan_beside-held counted node base now holds (job ∷ later) windows =
    let placed = placed_of base.rooms holds job now base.horizon in
    let mine = holds_of job placed in
    let others = plan_holds_beside base now (holds ++ mine) later in
    omega (
      arith,
      placed-held counted node now job placed (All-left HasWindow mine others windows),
      plan_beside-held counted node base now (holds ++ mine) later (All-right HasWindow mine others windows),
      taken-append counted node now (option_to_list placed) (plan_beside base now (holds ++ mine) later),
      sum_by-append (held counted node now) mine others,
    )

plan-held : (counted : ℕ → ℕ → ℕ) (base : BaseView) (ranked : List PlanJob) (now node room : ℕ) → All HasWindow (base.holds ++ plan_holds_of base ranked now)
    → sum_by (held counted node now) (base.holds ++ plan_holds_of base ranked now) ≤ room
    → sum_by (held counted node now) base.holds + taken_at counted node now (plan_of base ranked now) ≤ room
unfolding plan_of plan_holds_of
plan-held counted base ranked now node room windows within =
    let mine = plan_holds_beside base now base.holds ranked in
    omega (
      arith,
      within,
      plan_beside-held counted node base now base.holds ranked (All-right HasWindow base.holds mine windows),
      sum_by-append (held counted node now) base.holds mine,
    )

-- what begins at the moment fits, where all that is held at any does
pub starts-fit : (base : BaseView) (ranked : List PlanJob) (now : ℕ) → AreWithin base.rooms (base.holds ++ plan_holds_of base ranked now) → StartsFit base (plan_of base ranked now) now
starts-fit base ranked now within = record {
  cpus = λ node. plan-held (λ cpus mem. cpus) base ranked now node (room_at base.rooms node).cpus within.windows (within.cpus node now);
  mem = λ node. plan-held (λ cpus mem. mem) base ranked now node (room_at base.rooms node).mem within.windows (within.mem node now);
}
