-- A steady job fits, so that it is placed anew only where it isn't steady.
use Rattle.std.proofs.Common.{◌≡◌, ℕ, ◌+◌, ◌≤◌, ◌<◌, zero, suc, Bool, true, false, cond, List, length, take, All, arith, refl, sym, ◌∙◌, inl, inr, get_or}
use Rattle.std.proofs.lemmas.Bool.{cases_Bool, cases_lt}
use Rattle.backfill_planner.specs.declared.job.PlanJob.{PlanJob}
use Rattle.backfill_planner.specs.Bases.{BaseView}
use Rattle.backfill_planner.specs.Plans.{PlannedView}
use Rattle.plan_keeper.specs.Steady.{may_have_node, IsNamedOnce, IsSameFrom, IsAsBefore, AreSteady, others}
use Rattle.plan_keeper.specs.Marks.{times_before, AreMarks, Fits, IsGone, IsGoneMet}
use Rattle.plan_keeper.proofs.Gone.{not-gone}
use Rattle.plan_keeper.proofs.Times.{times-same, sums-same, own-nodes}

-- the job at a steady place fits at its place in the old list
pub steady-fits : (old : PlannedView) (base : BaseView) (ranked : List PlanJob) (now place : ℕ) (same : List Bool) (met : ℕ → Bool) (steady : ℕ → Bool) → AreMarks old base ranked now place same met → AreSteady old base ranked now steady → place < length ranked → (own : IsAsBefore old base ranked now place) → steady place ≡ true → All (λ node. node < length base.rooms) own.job.nodes → All (λ node. node < length old.base.rooms) own.job.nodes → Fits old.ranked same (times_before ranked place) met now own.job own.before
steady-fits old base ranked now place same met steady marks are below own is nodes old_nodes = record {
  there = own.there;
  is = own.was;
  fresh = fresh;
  unchanged = λ k d inside. still (get_or own.job.nodes k d) (nodes k d inside) (old_nodes k d inside) (own-nodes own.job k d inside);
  level = sums-same (times_before ranked place) (times_before old.ranked own.before) own.job.nodes
      (λ k d inside. times-same (get_or own.job.nodes k d) (take place ranked) (take own.before old.ranked) (own.above (get_or own.job.nodes k d) (own-nodes own.job k d inside)));
}
  where
    was : IsSameFrom now (get_or old.ranked own.before own.job) (get_or ranked place own.job)
    was = rw (own.is own.job) (own.was own.job)

    fresh : met own.before ≡ false
    fresh = elim (cases_Bool (met own.before)) [
      | inl marked ↦ absurd (marks.known own.before own.there marked place own.job (omega arith) below was own.once own.once_before)
      | inr unmarked ↦ unmarked
    ]

    lost-above : (node : ℕ) → IsGoneMet now old.ranked ranked met node → IsGone now old.ranked ranked own.before node
    lost-above node lost = elim (cases_lt lost.gone.at own.before) [
      | inl earlier ↦ record { at = lost.gone.at; above = earlier; there = lost.gone.there; has = lost.gone.has; gone = lost.gone.gone }
      | inr later ↦
          let marked : met own.before ≡ true = lost.all_met own.before (omega (arith, later, lost.gone.above)) in
          absurd (let wrong = sym fresh ∙ marked in cc)
    ]

    still : (node : ℕ) → node < length base.rooms → node < length old.base.rooms → may_have_node node own.job ≡ true → get_or same node false ≡ true
    still node inside old_inside has = elim (cases_Bool (get_or same node false)) [
      | inl marked ↦ marked
      | inr unmarked ↦ elim (marks.changed steady are node inside unmarked old_inside (own.nodes node has)) [
        | inl one ↦
            let settled = are.above place one.at node own.job one.above below is (rw (own.is own.job) has) (one.has own.job) in
            absurd (let wrong = sym one.other ∙ settled in cc)
        | inr lost ↦ absurd (not-gone old base ranked now place steady node are is below own has (lost-above node lost))
      ]
    ]

-- where a place's id is named once, a place at which a job of that id stands is that one
pub only-place : (jobs : List PlanJob) (one other id : ℕ) → one < length jobs → IsNamedOnce jobs other → ((d : PlanJob) → (get_or jobs one d).id ≡ id) → ((d : PlanJob) → (get_or jobs other d).id ≡ id) → (d : PlanJob) → one ≡ other
only-place jobs one other id inside once here there d = once one d inside (here d ∙ sym (there d))

-- how many of the first places aren't steady
pub others-next : (steady : ℕ → Bool) (place : ℕ) → others steady (place + 1) ≡ others steady place + cond (steady place) 0 1
unfolding others
others-next steady place = let next : place + 1 ≡ suc place = omega arith in rw next refl

pub others-rise : (steady : ℕ → Bool) (place more : ℕ) → others steady place ≤ others steady (place + more)
others-rise steady place zero = let same : place + 0 ≡ place = omega arith in rw same (omega arith)
others-rise steady place (suc more) =
    let next : place + suc more ≡ (place + more) + 1 = omega arith in
    rw next (omega (arith, others-rise steady place more, others-next steady (place + more)))
