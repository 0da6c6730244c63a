-- When each job of a new list keeps what it had in an older plan, the new plan has the old one's placements.
use Rattle.std.proofs.Common.{◌≡◌, ℕ, ◌+◌, ◌≤◌, ◌<◌, Bool, true, List, [], ◌∷◌, ◌++◌, length, take, All, arith, refl, ap, subst, sym, ◌∙◌, get_or, Option, Some, None, is_some, false, not, Bor}
use Rattle.std.specs.Prelude.{option_copied, option_to_list}
use Rattle.std.proofs.lemmas.List.{append-nil, get_or_default, take_all}
use Rattle.std.proofs.lemmas.List.Elements.{All-append, All-map}
use Rattle.resource_profile.specs.declared.NodeRoom.{NodeRoom}
use Rattle.resource_profile.specs.declared.Hold.{Hold}
use Rattle.backfill_planner.specs.declared.Share.{Share}
use Rattle.backfill_planner.specs.declared.Placed.{Placed}
use Rattle.backfill_planner.specs.declared.job.PlanJob.{PlanJob}
use Rattle.backfill_planner.specs.Bases.{BaseView}
use Rattle.backfill_planner.specs.Giving.{window_end}
use Rattle.backfill_planner.specs.Plans.{PlannedView, AreCounted, holds_of, holds_before, placed_of, placement_of, plan_beside, plan_of}
use Rattle.backfill_planner.specs.Staying.{EndsInTime, IsOutside, StaysFrom}
use Rattle.plan_keeper.specs.Steady.{IsSameFrom}
use Rattle.plan_keeper.specs.Kept.{IsThen}
use Rattle.plan_keeper.specs.Planner.{PlannerLaws}
use Rattle.plan_keeper.specs.Unmoved.{BeginAlike, CanStandStill, AreStanding, HasSamePlan}
use Rattle.plan_keeper.proofs.Marking.{holds-first}
use Rattle.plan_keeper.proofs.SameFrom.{same-in_time, same-holds, same-placed, same-none}
use Rattle.plan_keeper.proofs.Times.{there}
use Rattle.plain_data.specs.declared.seconds.TheConstants.{LAST_START}

pub never : {T : Type 0} (told : Bool) → told ≡ true → told ≡ false → T
never told is isnt = absurd (let wrong : true ≡ false = sym is ∙ isnt in cc)

-- where there is none there is no copy
pub none-copied : (found : Option (Bor Placed)) (none : Bool) → is_some found ≡ not none → none ≡ true → option_copied found ≡ None
none-copied None none is known = refl
none-copied (Some placed) none is known = never (not none) (sym is) (ap (λ told. not told) known)

-- none of the holds ends after `last` and up to `hi`
abbrev pub AreOutside : ℕ → ℕ → List Hold → Type 0
AreOutside last hi holds = All (λ (hold : Hold). IsOutside last hi hold.until) holds

-- what a job holds ends with its window
pub held-outside : (job : PlanJob) (placed : Placed) (last hi : ℕ) → IsOutside last hi (window_end job placed.start) → AreOutside last hi (holds_of job (Some placed))
held-outside job placed last hi outside =
    All-map (λ (hold : Hold). IsOutside last hi hold.until) (λ (share : Share). record {
      node = share.node;
      from = placed.start;
      until = window_end job placed.start;
      cpus = share.cpus;
      mem = share.mem;
    }) placed.parts (λ k d inside. outside)

-- before the first job
pub stands-first : (old : PlannedView) (base : BaseView) (ranked : List PlanJob) (now : ℕ) (counts : List ℕ) (quiet : Bool) → BeginAlike old.base base → counts ≡ 0 ∷ [] → (quiet ≡ true → now ≤ old.base.horizon) → (quiet ≡ true → AreOutside old.base.horizon base.horizon base.holds) → AreStanding old base ranked now 0 0 counts quiet
unfolding plan_of plan_beside
stands-first old base ranked now counts quiet alike counts_are from held = record {
  few = omega arith;
  holds = holds-first base ranked now ∙ alike.holds ∙ sym (holds-first old.base old.ranked old.moment);
  plan = refl;
  counted = rw counts_are (record {
    long = refl;
    each = λ first d few. let same : first ≡ 0 = omega (arith, few) in rw same refl;
  });
  quiet_from = from;
  quiet_holds = λ is. rw (holds-first base ranked now) (held is);
}

all-stay : (rooms : List NodeRoom) (holds : List Hold) (now : ℕ) (nodes : List ℕ) → All (StaysFrom rooms holds rooms holds now) nodes
all-stay rooms holds now nodes place d inside = record { room = refl; cpus = λ second from below. refl; mem = λ second from below. refl }

-- beside the same holds a job that can stand has what it had
still-placed : PlannerLaws → (rooms : List NodeRoom) (holds : List Hold) (was job : PlanJob) (before now last hi : ℕ) (quiet : Bool) (placed : Option Placed) → before ≤ now → last ≤ LAST_START → hi ≤ LAST_START → IsSameFrom now was job → EndsInTime job → ((start : ℕ) → start ≤ LAST_START → start < window_end job start) → (quiet ≡ true → now ≤ last) → (quiet ≡ true → AreOutside last hi holds) → placed_of rooms holds was before last ≡ placed → CanStandStill placed job quiet now last hi → placed_of rooms holds job now hi ≡ placed
still-placed laws rooms holds was job before now last hi quiet None order low_last low same in_time windows from held is stands =
    let tried = laws.none rooms holds rooms holds was before now last (same-in_time now was job same in_time) order (all-stay rooms holds now was.nodes) is in
    laws.none_comes rooms holds job now last hi (from stands.0) low (windows last low_last) (same-none rooms holds was job now (last + 1) same tried) (held stands.0) stands.1
still-placed laws rooms holds was job before now last hi quiet (Some placed) order low_last low same in_time windows from held is stands =
    sym (same-placed rooms holds was job now now hi same (omega arith))
    ∙ laws.some rooms holds rooms holds was before now last hi placed (same-in_time now was job same in_time) order low (all-stay rooms holds now was.nodes) is stands.0 stands.1

-- the next job of both lists keeps what it had
pub stands-more : PlannerLaws → (old : PlannedView) (base : BaseView) (ranked : List PlanJob) (now before index : ℕ) (counts : List ℕ) (quiet new_quiet : Bool) (job : PlanJob) (placed : Option Placed) (more : ℕ)
    → AreStanding old base ranked now before index counts quiet → BeginAlike old.base base → old.moment ≤ now → before < length old.ranked → index < length ranked → ((d : PlanJob) → get_or ranked index d ≡ job) → IsSameFrom now (get_or old.ranked before job) job
    → EndsInTime job → ((start : ℕ) → start ≤ LAST_START → start < window_end job start) → old.base.horizon ≤ LAST_START → base.horizon ≤ LAST_START
    → IsThen old before placed → CanStandStill placed job quiet now old.base.horizon base.horizon → more ≡ length (plan_of old.base (take (before + 1) old.ranked) old.moment)
    → (new_quiet ≡ true → (quiet ≡ true) × AreOutside old.base.horizon base.horizon (holds_of job placed))
    → AreStanding old base ranked now (before + 1) (index + 1) (counts ++ more ∷ []) new_quiet
stands-more laws old base ranked now before index counts quiet new_quiet job placed more standing alike order inside below is same in_time windows low_last low then stands more_is quiet_is = record {
  few = omega (arith, below);
  holds = now_held ∙ ap (λ some. some ++ holds_of job placed) standing.holds ∙ sym then_held;
  plan = plan_is;
  counted = laws.counts_go_on base ranked now index counts more standing.counted (more_is ∙ ap (λ some. length some) (sym plan_is));
  quiet_from = λ is. standing.quiet_from (quiet_is is).0;
  quiet_holds = λ is. rw now_held (All-append (λ (hold : Hold). IsOutside old.base.horizon base.horizon hold.until) (holds_before base ranked now index) (holds_of job placed) (standing.quiet_holds (quiet_is is).0) (quiet_is is).1);
}
  where
    was : PlanJob
    was = get_or old.ranked before job

    held : List Hold
    held = holds_before old.base old.ranked old.moment before

    here : get_or old.ranked before was ≡ was
    here = get_or_default old.ranked before was job inside

    mine : placement_of base ranked now index job ≡ placed
    mine =
        ap (λ rooms. placed_of rooms (holds_before base ranked now index) job now base.horizon) alike.rooms
        ∙ ap (λ some. placed_of old.base.rooms some job now base.horizon) standing.holds
        ∙ still-placed laws old.base.rooms held was job old.moment now old.base.horizon base.horizon quiet placed order low_last low same in_time windows standing.quiet_from
        (λ is. subst (λ some. AreOutside old.base.horizon base.horizon some) standing.holds (standing.quiet_holds is)) (sym (then job)) stands

    then_held : holds_before old.base old.ranked old.moment (before + 1) ≡ held ++ holds_of job placed
    then_held =
        laws.goes_on old.base old.ranked old.moment before was inside here
        ∙ ap (λ one. held ++ holds_of was one) (sym (then job))
        ∙ ap (λ some. held ++ some) (same-holds now was job same placed)

    now_held : holds_before base ranked now (index + 1) ≡ holds_before base ranked now index ++ holds_of job placed
    now_held = laws.goes_on base ranked now index job below (is job) ∙ ap (λ one. holds_before base ranked now index ++ holds_of job one) mine

    plan_is : plan_of base (take (index + 1) ranked) now ≡ plan_of old.base (take (before + 1) old.ranked) old.moment
    plan_is =
        laws.plan_goes_on base ranked now index job below (is job)
        ∙ ap (λ one. plan_of base (take index ranked) now ++ option_to_list one) mine
        ∙ ap (λ some. some ++ option_to_list placed) standing.plan
        ∙ ap (λ one. plan_of old.base (take before old.ranked) old.moment ++ option_to_list one) (then job)
        ∙ sym (laws.plan_goes_on old.base old.ranked old.moment before was inside here)

-- the next job of the old list isn't there any more, and had no start
pub stands-without : PlannerLaws → (old : PlannedView) (base : BaseView) (ranked : List PlanJob) (now before index : ℕ) (counts : List ℕ) (quiet : Bool) → AreStanding old base ranked now before index counts quiet → before < length old.ranked → IsThen old before None → AreStanding old base ranked now (before + 1) index counts quiet
stands-without laws old base ranked now before index counts quiet standing inside then = record {
  few = standing.few;
  holds = standing.holds ∙ sym then_held;
  plan = standing.plan ∙ sym then_planned;
  counted = standing.counted;
  quiet_from = standing.quiet_from;
  quiet_holds = standing.quiet_holds;
}
  where
    was : PlanJob
    was = (there old.ranked before inside).job

    here : get_or old.ranked before was ≡ was
    here = (there old.ranked before inside).is was

    nothing : placement_of old.base old.ranked old.moment before was ≡ None
    nothing = rw here at (sym (then was))

    held : List Hold
    held = holds_before old.base old.ranked old.moment before

    then_held : holds_before old.base old.ranked old.moment (before + 1) ≡ held
    then_held = laws.goes_on old.base old.ranked old.moment before was inside here ∙ ap (λ one. held ++ holds_of was one) nothing ∙ append-nil held

    then_planned : plan_of old.base (take (before + 1) old.ranked) old.moment ≡ plan_of old.base (take before old.ranked) old.moment
    then_planned =
        laws.plan_goes_on old.base old.ranked old.moment before was inside here
        ∙ ap (λ one. plan_of old.base (take before old.ranked) old.moment ++ option_to_list one) nothing
        ∙ append-nil (plan_of old.base (take before old.ranked) old.moment)

-- both lists are passed
pub stands-all : (old : PlannedView) (base : BaseView) (ranked : List PlanJob) (now index : ℕ) (counts : List ℕ) (quiet : Bool) → AreStanding old base ranked now (length old.ranked) index counts quiet → length ranked ≤ index → HasSamePlan old base ranked now counts
stands-all old base ranked now index counts quiet standing whole =
    let all : index ≡ length ranked = omega (arith, standing.few, whole) in
    record {
      placements = ap (λ jobs. plan_of base jobs now) (sym (take_all index ranked whole)) ∙ standing.plan ∙ ap (λ jobs. plan_of old.base jobs old.moment) (take_all (length old.ranked) old.ranked (omega arith));
      counted = rw all at standing.counted;
    }
