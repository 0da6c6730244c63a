-- How the marks go on from job to job.
use Rattle.std.proofs.Common.{◌≡◌, ℕ, ◌+◌, ◌-◌, ◌≤◌, ◌<◌, Bool, true, false, not, List, length, take, All, arith, refl, ap, subst, sym, ◌∙◌, inl, inr, get_or}
use Rattle.std.proofs.lemmas.Bool.{cases_Bool, cases_eq, cases_lt, and_parts}
use Rattle.std.proofs.lemmas.List.{append-nil, get_or_default}
use Rattle.backfill_planner.specs.declared.job.PlanJob.{PlanJob}
use Rattle.backfill_planner.specs.Bases.{BaseView}
use Rattle.backfill_planner.specs.Plans.{PlannedView, holds_of, holds_before, placement_of, plan_holds_of, plan_holds_beside}
use Rattle.backfill_planner.specs.Staying.{StaysFrom}
use Rattle.plan_keeper.specs.Steady.{may_have_node, IsSameFrom, AreSteady}
use Rattle.plan_keeper.specs.Planner.{PlannerLaws}
use Rattle.plan_keeper.specs.Marks.{on, times, times_before, IsMatched, IsPast, IsGoneMet, IsUnsettled, AreMarks, Fits, Meets, Without}
use Rattle.plan_keeper.proofs.Times.{times-next, times-past, times-up_to, not-on, has-on, sums-tell, owned, own-nodes}
use Rattle.plan_keeper.proofs.SameFrom.{same-id, same-on, same-holds}
use Rattle.plan_keeper.proofs.Frees.{stays-beside, stays-new, stays-on, place-off}

-- what was met stays so
pub meets-more : (met new : ℕ → Bool) (before other : ℕ) → Meets met before new → met other ≡ true → new other ≡ true
meets-more met new before other more marked = elim (cases_eq other before) [
  | inl same ↦ rw same more.here
  | inr apart ↦ more.others other apart ∙ marked
]

past-more : (now : ℕ) (old ranked : List PlanJob) (place before : ℕ) → IsPast now old ranked place before → IsPast now old ranked (place + 1) before
past-more now old ranked place before past other d later inside same once once_before = past other d (omega (arith, later)) inside same once once_before

pub unsettled-before : (ranked : List PlanJob) (steady : ℕ → Bool) (place node : ℕ) → IsUnsettled ranked steady place node → IsUnsettled ranked steady (place + 1) node
unsettled-before ranked steady place node one = record { at = one.at; above = omega (arith, one.above); has = one.has; other = one.other }

-- the job at this place is none behind it
past-here : (now : ℕ) (old ranked : List PlanJob) (place before : ℕ) (job : PlanJob) → place < length ranked → ((d : PlanJob) → get_or ranked place d ≡ job) → ((d : PlanJob) → IsSameFrom now (get_or old before d) job) → IsPast now old ranked (place + 1) before
past-here now old ranked place before job below is was other d later inside same once once_before =
    let ids : (get_or ranked place d).id ≡ (get_or ranked other d).id = ap (λ (one : PlanJob). one.id) (is d) ∙ sym (same-id now (get_or old before d) job (was d)) ∙ same-id now (get_or old before d) (get_or ranked other d) same in
    let twice : place ≡ other = once place d below ids in
    omega (arith, twice, later)

gone-met : (now : ℕ) (old ranked : List PlanJob) (met new_met : ℕ → Bool) (node : ℕ) → ((before : ℕ) → met before ≡ true → new_met before ≡ true) → IsGoneMet now old ranked met node → IsGoneMet now old ranked new_met node
gone-met now old ranked met new_met node more one = record { first = one.first; gone = one.gone; all_met = λ before below. more before (one.all_met before below) }

-- a node that the job may not have stays matched
matched-off : PlannerLaws → (old : PlannedView) (base : BaseView) (ranked : List PlanJob) (now place : ℕ) (met new_met : ℕ → Bool) (node : ℕ) (job : PlanJob) → place < length ranked → ((d : PlanJob) → get_or ranked place d ≡ job) → may_have_node node job ≡ false → ((other : ℕ) → met other ≡ true → new_met other ≡ true) → IsMatched old base ranked now place met node → IsMatched old base ranked now (place + 1) new_met node
matched-off laws old base ranked now place met new_met node job below is without more was = record {
  passed = λ before d inside has fewer. more before (was.passed before d inside has (omega (arith, fewer, same)));
  stays = λ before few level.
      rw (laws.goes_on base ranked now place job below (is job))
      (stays-new old.base.rooms (holds_before old.base old.ranked old.moment before) base.rooms (holds_before base ranked now place) (holds_of job (placement_of base ranked now place job)) now node (place-off laws base ranked now place node job without) (was.stays before few (level ∙ same)));
}
  where
    same : times node (take (place + 1) ranked) ≡ times node (take place ranked)
    same = times-next node ranked place job below ∙ omega (arith, ap (λ one. on node one) (is job), not-on node job without)

-- a node of the job stays matched, where it is placed as it was
matched-on : PlannerLaws → (old : PlannedView) (base : BaseView) (ranked : List PlanJob) (now place : ℕ) (met new_met : ℕ → Bool) (node : ℕ) (job : PlanJob) (before : ℕ) → place < length ranked → ((d : PlanJob) → get_or ranked place d ≡ job) → before < length old.ranked → Meets met before new_met → IsSameFrom now (get_or old.ranked before job) job → may_have_node node job ≡ true → times node (take place ranked) ≡ times node (take before old.ranked) → placement_of base ranked now place job ≡ placement_of old.base old.ranked old.moment before (get_or old.ranked before job) → IsMatched old base ranked now place met node → IsMatched old base ranked now (place + 1) new_met node
matched-on laws old base ranked now place met new_met node job before below is there more again has level same was = record {
  passed = λ other d inside some fewer. elim (cases_lt other before) [
    | inl earlier ↦ meets-more met new_met before other more (was.passed other d inside some (omega (arith, level, some, times-past node old.ranked other before d earlier (omega (arith, there)))))
    | inr at ↦ elim (cases_eq other before) [
      | inl here ↦ rw here more.here
      | inr apart ↦ absurd (omega (arith, fewer, next, level, old_next, times-up_to node old.ranked (before + 1) other (omega (arith, at, apart)) (omega (arith, inside))))
    ]
  ];
  stays = λ other few is_level. elim (cases_lt before other) [
    | inl later ↦
        let more : (before + 1) + (other - (before + 1)) ≡ other = omega (arith, later) in
        let count : times node (take ((before + 1) + (other - (before + 1))) old.ranked) ≡ times node (take (before + 1) old.ranked) = rw more (is_level ∙ omega (arith, next, level, old_next)) in
        let whole = stays-on laws old.base old.ranked old.moment now node (before + 1) (other - (before + 1)) base.rooms (holds_before base ranked now (place + 1)) (omega (arith, more, few)) count stays_here in
        rw more at whole
    | inr earlier ↦ absurd (omega (arith, is_level, next, level, some_on, times-up_to node old.ranked other before earlier (omega (arith, there))))
  ];
}
  where
    some_on : 1 ≤ on node job
    some_on = has-on node job has

    next : times node (take (place + 1) ranked) ≡ times node (take place ranked) + on node job
    next = times-next node ranked place job below ∙ ap (λ one. times node (take place ranked) + on node one) (is job)

    old_next : times node (take (before + 1) old.ranked) ≡ times node (take before old.ranked) + on node job
    old_next = times-next node old.ranked before job there ∙ ap (λ count. times node (take before old.ranked) + count) (same-on now (get_or old.ranked before job) job again node)

    stays_here : StaysFrom old.base.rooms (holds_before old.base old.ranked old.moment (before + 1)) base.rooms (holds_before base ranked now (place + 1)) now node
    stays_here =
        let then = get_or old.ranked before job in
        let placed = placement_of old.base old.ranked old.moment before then in
        rw (laws.goes_on base ranked now place job below (is job), laws.goes_on old.base old.ranked old.moment before then there (get_or_default old.ranked before then job there), same, same-holds now then job again placed)
        (stays-beside old.base.rooms (holds_before old.base old.ranked old.moment before) base.rooms (holds_before base ranked now place) (holds_of job placed) now node (was.stays before (omega (arith, there)) (sym level)))

-- the job is placed as it was
pub kept-marks : PlannerLaws → (old : PlannedView) (base : BaseView) (ranked : List PlanJob) (now place : ℕ) (same : List Bool) (met new_met : ℕ → Bool) (job : PlanJob) (before : ℕ) → AreMarks old base ranked now place same met → place < length ranked → ((d : PlanJob) → get_or ranked place d ≡ job) → Fits old.ranked same (times_before ranked place) met now job before → All (λ node. times node (take place ranked) ≡ times node (take before old.ranked)) job.nodes → placement_of base ranked now place job ≡ placement_of old.base old.ranked old.moment before (get_or old.ranked before job) → Meets met before new_met → AreMarks old base ranked now (place + 1) same new_met
kept-marks laws old base ranked now place same met new_met job before marks below is fits level placed more = record {
  long = marks.long;
  known = λ other inside marked. elim (cases_eq other before) [
    | inl here ↦ rw here (past-here now old.ranked ranked place before job below is fits.is)
    | inr apart ↦ past-more now old.ranked ranked place other (marks.known other inside (sym (more.others other apart) ∙ marked))
  ];
  matched = λ node inside marked. elim (cases_Bool (may_have_node node job)) [
    | inl has ↦ matched-on laws old base ranked now place met new_met node job before below is fits.there more (fits.is job) has (owned (λ node. times node (take place ranked) ≡ times node (take before old.ranked)) job node level has) placed (marks.matched node inside marked)
    | inr without ↦ matched-off laws old base ranked now place met new_met node job below is without (λ other marked. meets-more met new_met before other more marked) (marks.matched node inside marked)
  ];
  changed = λ steady are node inside unmarked old_inside stays. elim (marks.changed steady are node inside unmarked old_inside stays) [
    | inl one ↦ inl (unsettled-before ranked steady place node one)
    | inr lost ↦ inr (gone-met now old.ranked ranked met new_met node (λ other marked. meets-more met new_met before other more marked) lost)
  ];
}

-- the job is placed anew
pub other-marks : PlannerLaws → (old : PlannedView) (base : BaseView) (ranked : List PlanJob) (now place : ℕ) (same : List Bool) (met : ℕ → Bool) (new_same : List Bool) (job : PlanJob) → AreMarks old base ranked now place same met → place < length ranked → ((d : PlanJob) → get_or ranked place d ≡ job) → ((steady : ℕ → Bool) → AreSteady old base ranked now steady → steady place ≡ false) → Without same job new_same → AreMarks old base ranked now (place + 1) new_same met
other-marks laws old base ranked now place same met new_same job marks below is other without = record {
  long = without.long ∙ marks.long;
  known = λ before inside marked. past-more now old.ranked ranked place before (marks.known before inside marked);
  matched = λ node inside marked.
      let both = and_parts (get_or same node false) (not (may_have_node node job)) (sym (without.each node (omega (arith, inside, marks.long))) ∙ marked) in
      matched-off laws old base ranked now place met met node job below is (not-true (may_have_node node job) both.1) (λ before marked. marked) (marks.matched node inside both.0);
  changed = λ steady are node inside unmarked old_inside stays. elim (cases_Bool (get_or same node false)) [
    | inr changed ↦ elim (marks.changed steady are node inside changed old_inside stays) [
      | inl one ↦ inl (unsettled-before ranked steady place node one)
      | inr lost ↦ inr lost
    ]
    | inl was ↦ elim (cases_Bool (may_have_node node job)) [
      | inl has ↦ inl (record { at = place; above = omega arith; has = λ d. rw (is d) has; other = other steady are })
      | inr has_not ↦ absurd (let wrong = rw (without.each node (omega (arith, inside, marks.long)), was, has_not) at unmarked in cc)
    ]
  ];
}
  where
    not-true : (b : Bool) → not b ≡ true → b ≡ false
    not-true false marked = refl
    not-true true marked = cc

-- more jobs of the old list are met
pub marks-met : (old : PlannedView) (base : BaseView) (ranked : List PlanJob) (now place : ℕ) (same : List Bool) (met new_met : ℕ → Bool) → AreMarks old base ranked now place same met → ((before : ℕ) → met before ≡ true → new_met before ≡ true) → ((before : ℕ) → before < length old.ranked → new_met before ≡ true → IsPast now old.ranked ranked place before) → AreMarks old base ranked now place same new_met
marks-met old base ranked now place same met new_met marks more known = record {
  long = marks.long;
  known = known;
  matched = λ node inside marked.
      let was = marks.matched node inside marked in
      record {
        passed = λ before d there has fewer. more before (was.passed before d there has fewer);
        stays = was.stays;
      };
  changed = λ steady are node inside unmarked old_inside stays. elim (marks.changed steady are node inside unmarked old_inside stays) [
    | inl one ↦ inl one
    | inr lost ↦ inr (gone-met now old.ranked ranked met new_met node more lost)
  ];
}

-- before the first job
pub holds-first : (base : BaseView) (ranked : List PlanJob) (now : ℕ) → holds_before base ranked now 0 ≡ base.holds
unfolding plan_holds_of plan_holds_beside
holds-first base ranked now = append-nil base.holds

-- a job that fits has as many above it on each of its nodes as it had
pub levels : (old : PlannedView) (base : BaseView) (ranked : List PlanJob) (now place : ℕ) (same : List Bool) (met : ℕ → Bool) (job : PlanJob) (before : ℕ) → AreMarks old base ranked now place same met → All (λ node. node < length base.rooms) job.nodes → Fits old.ranked same (times_before ranked place) met now job before → All (λ node. times node (take place ranked) ≡ times node (take before old.ranked)) job.nodes
levels old base ranked now place same met job before marks nodes fits =
    sums-tell (λ node. times node (take place ranked)) (λ node. times node (take before old.ranked)) job.nodes
    (λ k d below. no_more (get_or job.nodes k d) (nodes k d below) (fits.unchanged k d below) (own-nodes job k d below))
    fits.level
  where
    no_more : (node : ℕ) → node < length base.rooms → get_or same node false ≡ true → may_have_node node job ≡ true → times node (take place ranked) ≤ times node (take before old.ranked)
    no_more node inside marked has = elim (cases_lt (times node (take before old.ranked)) (times node (take place ranked))) [
      | inl fewer ↦
          let some : 1 ≤ on node (get_or old.ranked before job) = subst (λ count. 1 ≤ count) (sym (same-on now (get_or old.ranked before job) job (fits.is job) node)) (has-on node job has) in
          let passed = (marks.matched node inside marked).passed before job fits.there some fewer in
          absurd (let wrong = sym fits.fresh ∙ passed in cc)
      | inr most ↦ most
    ]

-- and nothing has changed on them
pub nodes-stay : (old : PlannedView) (base : BaseView) (ranked : List PlanJob) (now place : ℕ) (same : List Bool) (met : ℕ → Bool) (job : PlanJob) (before : ℕ) → AreMarks old base ranked now place same met → All (λ node. node < length base.rooms) job.nodes → Fits old.ranked same (times_before ranked place) met now job before → All (StaysFrom old.base.rooms (holds_before old.base old.ranked old.moment before) base.rooms (holds_before base ranked now place) now) job.nodes
nodes-stay old base ranked now place same met job before marks nodes fits k d below =
    let node = get_or job.nodes k d in
    (marks.matched node (nodes k d below) (fits.unchanged k d below)).stays before (omega (arith, fits.there)) (sym (levels old base ranked now place same met job before marks nodes fits k d below))
