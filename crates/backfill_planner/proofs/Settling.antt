-- What a job holds that gets the placement that is its own, and how the plan goes on then.
use Rattle.std.proofs.Common.{◌≡◌, ℕ, ◌+◌, ◌≤◌, ◌<◌, zero, suc, max, List, [], ◌∷◌, ◌++◌, length, take, All, arith, refl, ap, subst, sym, ◌∙◌, inl, inr, get_or, Option, Some, None}
use Rattle.std.specs.Prelude.{option_to_list, slice_get}
use Rattle.std.specs.List.Sorted.{IsPermutation}
use Rattle.std.proofs.lemmas.Bool.{cases_lt}
use Rattle.std.proofs.lemmas.List.{append-nil, length-append, get_or_default, take_all}
use Rattle.std.proofs.lemmas.List.Elements.{All-nil, All-more}
use Rattle.std.proofs.lemmas.List.Sorted.{IsPermutation-append_left, IsPermutation-trans, IsPermutation-refl}
use Rattle.resource_profile.specs.declared.NodeRoom.{NodeRoom}
use Rattle.resource_profile.specs.declared.Hold.{Hold}
use Rattle.resource_profile.specs.Profiles.{ProfileView, AreWithin}
use Rattle.backfill_planner.specs.LowerLaws.{LowerLaws}
use Rattle.backfill_planner.specs.declared.Placed.{Placed}
use Rattle.backfill_planner.specs.declared.job.PlanJob.{PlanJob}
use Rattle.backfill_planner.specs.declared.seen.Seen.{Seen}
use Rattle.backfill_planner.specs.Bases.{BaseView}
use Rattle.backfill_planner.specs.Plans.{AreCounted, holds_of, holds_before, placed_of, placement_of, plan_beside, plan_of, plan_holds_beside, plan_holds_of}
use Rattle.backfill_planner.specs.Placements.{IsPlannable, IsOnRooms, AreParts, StartsFit}
use Rattle.backfill_planner.specs.Lesser.{NoneBefore}
use Rattle.backfill_planner.specs.Searches.{IsSeen, bound_of}
use Rattle.backfill_planner.specs.Making.{IsPlanning}
use Rattle.backfill_planner.proofs.Holding.{HoldsFree}
use Rattle.backfill_planner.proofs.LeastSecond.{placed-is}
use Rattle.backfill_planner.proofs.Parts.{placed-holds, plan-parts}
use Rattle.backfill_planner.proofs.Within.{plan-within}
use Rattle.backfill_planner.proofs.Starts.{starts-fit}
use Rattle.backfill_planner.proofs.Beside.{placed-permuted, placement-permuted}
use Rattle.backfill_planner.proofs.Beginnings.{plan_of-take}
use Rattle.backfill_planner.proofs.Lessening.{bound-shown, seen-held}
use Rattle.backfill_planner.proofs.Stepping.{plan-next, holds-next}
use Rattle.plain_data.specs.declared.seconds.TheConstants.{LAST_START}

-- it is free, and begins in time
pub record SettlesFree (rooms : List NodeRoom) (holds : List Hold) (job : PlanJob) (placed : Placed) : Type 0 where
  pub free : HoldsFree rooms holds (holds_of job (Some placed))
  pub start : placed.start ≤ LAST_START

pub settled-free : LowerLaws → (rooms : List NodeRoom) (holds : List Hold) (job : PlanJob) (lo hi : ℕ) (placed : Placed) → IsOnRooms rooms job → IsPlannable job → hi ≤ LAST_START → Some placed ≡ placed_of rooms holds job lo hi → SettlesFree rooms holds job placed
settled-free laws rooms holds job lo hi placed nodes is low there =
    let placement = placed-is laws rooms holds job lo hi placed (sym there) in
    record {
      free = placed-holds rooms holds job lo hi placed nodes is low placement;
      start = omega (arith, placement.last, low);
    }

counts-get : (counts : List ℕ) (more first d : ℕ) → first < length counts → get_or (counts ++ more ∷ []) first d ≡ get_or counts first d
counts-get [] more first d below = absurd (omega (arith, below))
counts-get (count ∷ counts) more zero d below = refl
counts-get (count ∷ counts) more (suc first) d below = counts-get counts more first d (omega (arith, below))

counts-last : (counts : List ℕ) (more d : ℕ) → get_or (counts ++ more ∷ []) (length counts) d ≡ more
counts-last [] more d = refl
counts-last (count ∷ counts) more d = counts-last counts more d

-- one job more is counted
pub counted-more : (base : BaseView) (ranked : List PlanJob) (now done : ℕ) (counts : List ℕ) (more : ℕ) → AreCounted base ranked now done counts → more ≡ length (plan_of base (take (done + 1) ranked) now) → AreCounted base ranked now (done + 1) (counts ++ more ∷ [])
counted-more base ranked now done counts more counted is = record {
  long = length-append counts (more ∷ []) ∙ omega (arith, counted.long);
  each = λ first d few. elim (cases_lt first (done + 1)) [
    | inl before ↦ counts-get counts more first d (omega (arith, before, counted.long)) ∙ counted.each first d (omega (arith, before))
    | inr at ↦
        let here : first ≡ length counts = omega (arith, at, few, counted.long) in
        let same : first ≡ done + 1 = omega (arith, at, few) in
        rw here (counts-last counts more d) ∙ is ∙ ap (λ n. length (plan_of base (take n ranked) now)) (sym same)
  ];
}

-- what the next job holds that gets its placement is free in the profile
pub next-free : LowerLaws → (base : BaseView) (ranked : List PlanJob) (now done : ℕ) (made : List Placed) (counts : List ℕ) (profile : ProfileView) (searches : List Seen) (job : PlanJob) (placed : Placed) → IsPlanning base ranked now done made counts profile searches → base.horizon ≤ LAST_START → done < length ranked → job ≡ get_or ranked done job → IsPlannable job → Some placed ≡ placement_of base ranked now done job → SettlesFree profile.rooms profile.holds job placed
next-free laws base ranked now done made counts profile searches job placed is low below job_is plannable there =
    let nodes : IsOnRooms base.rooms job = rw (← job_is) at (is.nodes done job below) in
    rw is.rooms (settled-free laws base.rooms profile.holds job now base.horizon placed nodes plannable low (there ∙ placed-permuted base.rooms (holds_before base ranked now done) profile.holds job now base.horizon is.held))

-- one job more is planned
pub next-planned : LowerLaws → (base : BaseView) (ranked : List PlanJob) (now done : ℕ) (made : List Placed) (counts : List ℕ) (profile : ProfileView) (searches : List Seen) (job : PlanJob) (placed : Option Placed)
    → (new_made : List Placed) (new_counts : List ℕ) (new_profile : ProfileView) (new_searches : List Seen) → IsPlanning base ranked now done made counts profile searches → done < length ranked → job ≡ get_or ranked done job → IsPlannable job → placed ≡ placement_of base ranked now done job
    → new_made ≡ made ++ option_to_list placed → new_counts ≡ counts ++ length new_made ∷ [] → new_profile.rooms ≡ profile.rooms → IsPermutation (profile.holds ++ holds_of job placed) new_profile.holds
    → (((d : PlanJob) → NoneBefore base.rooms profile.holds (get_or ranked done d) now (bound_of placed base.horizon)) → All (IsSeen base.rooms profile.holds ranked now) new_searches)
    → IsPlanning base ranked now (done + 1) new_made new_counts new_profile new_searches
next-planned laws base ranked now done made counts profile searches job placed new_made new_counts new_profile new_searches is below job_is plannable there made_is counts_are rooms_are held_is seen_are =
    let beside = holds_before base ranked now done in
    let plan_is : new_made ≡ plan_of base (take (done + 1) ranked) now = made_is ∙ ap (λ one. made ++ option_to_list one) there ∙ ap (λ some. some ++ option_to_list (placement_of base ranked now done job)) is.placements ∙ sym (plan-next base ranked now done job below (sym job_is)) in
    let mine : holds_of job placed ≡ holds_of job (placement_of base ranked now done job) = ap (λ one. holds_of job one) there in
    let moved : IsPermutation (beside ++ holds_of job placed) new_profile.holds = IsPermutation-trans _ _ _ (IsPermutation-append_left (holds_of job placed) beside profile.holds is.held) held_is in
    let here : placed ≡ placed_of base.rooms profile.holds job now base.horizon = there ∙ placed-permuted base.rooms beside profile.holds job now base.horizon is.held in
    let shown : NoneBefore base.rooms profile.holds job now (bound_of placed base.horizon) = bound-shown laws base.rooms profile.holds job now base.horizon placed here in
    record {
      within = is.within;
      low = is.low;
      nodes = is.nodes;
      jobs = All-more IsPlannable ranked done job below is.jobs (rw (← job_is) plannable);
      few = omega (arith, below);
      placements = plan_is;
      counted = rw counts_are (counted-more base ranked now done counts (length new_made) is.counted (ap (λ some. length some) plan_is));
      rooms = rooms_are ∙ is.rooms;
      held = rw (holds-next base ranked now done job below (sym job_is), ← mine) moved;
      seen = seen-held laws base.rooms profile.holds (holds_of job placed) new_profile.holds ranked now new_searches held_is (seen_are (λ d. subst (λ j. NoneBefore base.rooms profile.holds j now (bound_of placed base.horizon)) (job_is ∙ get_or_default ranked done job d below) shown));
    }

-- one search more is kept in mind
pub searched-seen : LowerLaws → (base : BaseView) (ranked : List PlanJob) (now done : ℕ) (made : List Placed) (counts : List ℕ) (profile : ProfileView) (searches : List Seen) (placed : Option Placed) (new_searches : List Seen)
    → IsPlanning base ranked now done made counts profile searches → ((d : PlanJob) → placed ≡ placement_of base ranked now done (get_or ranked done d))
    → (((d : PlanJob) → NoneBefore base.rooms profile.holds (get_or ranked done d) now (bound_of placed base.horizon)) → All (IsSeen base.rooms profile.holds ranked now) new_searches)
    → IsPlanning base ranked now done made counts profile new_searches
searched-seen laws base ranked now done made counts profile searches placed new_searches is there seen_are = record {
  within = is.within;
  low = is.low;
  nodes = is.nodes;
  jobs = is.jobs;
  few = is.few;
  placements = is.placements;
  counted = is.counted;
  rooms = is.rooms;
  held = is.held;
  seen = seen_are (λ d. bound-shown laws base.rooms profile.holds (get_or ranked done d) now base.horizon placed (there d ∙ placed-permuted base.rooms (holds_before base ranked now done) profile.holds (get_or ranked done d) now base.horizon is.held));
}

-- before the first job
pub none-planned : (base : BaseView) (ranked : List PlanJob) (now : ℕ) (made : List Placed) (counts : List ℕ) (profile : ProfileView) (searches : List Seen) → AreWithin base.rooms base.holds → base.horizon ≤ LAST_START → All (IsOnRooms base.rooms) ranked → made ≡ [] → counts ≡ 0 ∷ [] → profile.rooms ≡ base.rooms → profile.holds ≡ base.holds → searches ≡ [] → IsPlanning base ranked now 0 made counts profile searches
unfolding plan_of plan_beside plan_holds_of plan_holds_beside
none-planned base ranked now made counts profile searches within low nodes made_is counts_are rooms_are holds_are searches_are = record {
  within = within;
  low = low;
  nodes = nodes;
  jobs = All-nil IsPlannable;
  few = omega arith;
  placements = made_is;
  counted = rw counts_are (record {
    long = refl;
    each = λ first d few. let same : first ≡ 0 = omega (arith, few) in rw same refl;
  });
  rooms = rooms_are;
  held = rw (holds_are, append-nil) (IsPermutation-refl base.holds);
  seen = rw searches_are (All-nil (IsSeen base.rooms profile.holds ranked now));
}

-- none of the next job's sets fits before `from`, by the profile as by the list
pub none-in-profile : (base : BaseView) (ranked : List PlanJob) (now done : ℕ) (made : List Placed) (counts : List ℕ) (profile : ProfileView) (searches : List Seen) (job : PlanJob) (from : ℕ) → IsPlanning base ranked now done made counts profile searches → NoneBefore base.rooms (holds_before base ranked now done) job now from → NoneBefore base.rooms profile.holds job now from
none-in-profile base ranked now done made counts profile searches job from is none second low high last = sym (placement-permuted base.rooms (holds_before base ranked now done) profile.holds job second is.held) ∙ none second low high last

-- before the later one of two seconds none fits
pub none-before-max : (rooms : List NodeRoom) (holds : List Hold) (job : PlanJob) (now one other : ℕ) → NoneBefore rooms holds job now one → NoneBefore rooms holds job now other → NoneBefore rooms holds job now (max one other)
none-before-max rooms holds job now one other first later second low high last = elim (cases_lt second one) [
  | inl before ↦ first second low before last
  | inr at ↦ later second low (omega (arith, at, high)) last
]

-- the placement of a job of the list, by how many the first jobs have
get-here : (some : List Placed) (placed : Placed) (later : List Placed) → slice_get (some ++ placed ∷ later) (length some) ≡ Some placed
get-here [] placed later = refl
get-here (one ∷ some) placed later = get-here some placed later

record HasCounts (base : BaseView) (ranked : List PlanJob) (now place first second : ℕ) (job : PlanJob) : Type 0 where
  first_is : first ≡ length (plan_of base (take place ranked) now)
  second_is : second ≡ length (plan_of base (take place ranked) now ++ option_to_list (placement_of base ranked now place job))

has-counts : (base : BaseView) (ranked : List PlanJob) (now place first second : ℕ) (job : PlanJob) (counts : List ℕ) → AreCounted base ranked now (length ranked) counts → place < length ranked → job ≡ get_or ranked place job → first ≡ get_or counts place first → second ≡ get_or counts (place + 1) second → HasCounts base ranked now place first second job
has-counts base ranked now place first second job counts counted below job_is first_is second_is = record {
  first_is = first_is ∙ counted.each place first (omega (arith, below));
  second_is = second_is ∙ counted.each (place + 1) second (omega (arith, below)) ∙ ap (λ some. length some) (plan-next base ranked now place job below (sym job_is));
}

pub placed-there : (base : BaseView) (ranked : List PlanJob) (now place first second : ℕ) (job : PlanJob) (counts : List ℕ) (made : List Placed) → AreCounted base ranked now (length ranked) counts → made ≡ plan_of base ranked now → place < length ranked → job ≡ get_or ranked place job → first ≡ get_or counts place first → second ≡ get_or counts (place + 1) second → first < second → slice_get made first ≡ placement_of base ranked now place job
placed-there base ranked now place first second job counts made counted made_is below job_is first_is second_is some =
    by (placement_of base ranked now place job) refl
  where
    before : List Placed
    before = plan_of base (take place ranked) now

    has : HasCounts base ranked now place first second job
    has = has-counts base ranked now place first second job counts counted below job_is first_is second_is

    whole : before ++ option_to_list (placement_of base ranked now place job) ≡ take second made
    whole = sym (plan-next base ranked now place job below (sym job_is)) ∙ plan_of-take base ranked now (place + 1) ∙ rw (plan-next base ranked now place job below (sym job_is), ← has.second_is, made_is) refl

    taken : (n : ℕ) (xs : List Placed) (i : ℕ) → i < n → slice_get (take n xs) i ≡ slice_get xs i
    taken zero xs i lower = absurd (omega (arith, lower))
    taken (suc n) [] i lower = refl
    taken (suc n) (x ∷ xs) zero lower = refl
    taken (suc n) (x ∷ xs) (suc i) lower = taken n xs i (omega (arith, lower))

    by : (placed : Option Placed) → placement_of base ranked now place job ≡ placed → slice_get made first ≡ placed
    by None is = let same : second ≡ length before = has.second_is ∙ (rw is (ap (λ some. length some) (append-nil before))) in absurd (omega (arith, some, same, has.first_is))
    by (Some placed) is =
        sym (taken second made first some)
        ∙ ap (λ some. slice_get some first) (sym whole)
        ∙ ap (λ one. slice_get (before ++ option_to_list one) first) is
        ∙ ap (λ n. slice_get (before ++ placed ∷ []) n) has.first_is
        ∙ get-here before placed []

pub placed-nowhere-there : (base : BaseView) (ranked : List PlanJob) (now place first second : ℕ) (job : PlanJob) (counts : List ℕ) → AreCounted base ranked now (length ranked) counts → place < length ranked → job ≡ get_or ranked place job → first ≡ get_or counts place first → second ≡ get_or counts (place + 1) second → second ≤ first → None ≡ placement_of base ranked now place job
placed-nowhere-there base ranked now place first second job counts counted below job_is first_is second_is none =
    by (placement_of base ranked now place job) refl
  where
    before : List Placed
    before = plan_of base (take place ranked) now

    has : HasCounts base ranked now place first second job
    has = has-counts base ranked now place first second job counts counted below job_is first_is second_is

    by : (placed : Option Placed) → placement_of base ranked now place job ≡ placed → None ≡ placed
    by None is = refl
    by (Some placed) is = let longer : second ≡ length before + 1 = has.second_is ∙ (rw is (length-append before (placed ∷ []))) in absurd (omega (arith, none, longer, has.first_is))

-- what is known of a plan whose jobs are all planned
pub record IsWhole (base : BaseView) (ranked : List PlanJob) (now : ℕ) : Type 0 where
  pub jobs : All IsPlannable ranked
  pub within : AreWithin base.rooms (base.holds ++ plan_holds_of base ranked now)
  pub starts_fit : StartsFit base (plan_of base ranked now) now
  pub apart : All (λ (placed : Placed). AreParts base.rooms placed.parts) (plan_of base ranked now)

pub all-planned : LowerLaws → (base : BaseView) (ranked : List PlanJob) (now done : ℕ) (made : List Placed) (counts : List ℕ) (profile : ProfileView) (searches : List Seen) → IsPlanning base ranked now done made counts profile searches → done ≡ length ranked → IsWhole base ranked now
all-planned laws base ranked now done made counts profile searches is all =
    let jobs : All IsPlannable ranked = rw (take_all done ranked (omega (arith, all))) at is.jobs in
    let within = plan-within laws base ranked now is.within is.low is.nodes jobs in
    record {
      jobs = jobs;
      within = within;
      starts_fit = starts-fit base ranked now within;
      apart = plan-parts laws base ranked now is.low is.nodes jobs;
    }
