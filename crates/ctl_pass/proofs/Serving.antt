-- The highest of the candidates that don't start: it waits, as it did before the pass, once the others have started.
use Rattle.std.proofs.Common.{◌≡◌, ◌≢◌, ℕ, zero, suc, ◌+◌, ◌<◌, Bool, true, false, not, cond, eqb, List, [], ◌∷◌, length, map, drop, fold, get_or, All, Contains, Option, Some, None, option_map, refl, ap, sym, ◌∙◌, arith, inl, inr}
use Rattle.std.specs.Prelude.{find, slice_get}
use Rattle.small_texts.specs.Options.{◌>>=◌}
use Rattle.std.specs.List.{list_any}
use Rattle.std.proofs.lemmas.Bool.{both_ways, cases_Bool, eq-eqb, not-true}
use Rattle.std.proofs.lemmas.List.Elements.{All-head, All-tail}
use Rattle.std.proofs.lemmas.List.Folds.{list_any_at}
use Rattle.backfill_planner.specs.declared.Placed.{Placed}
use Rattle.backfill_planner.specs.declared.job.PlanJob.{PlanJob}
use Rattle.backfill_planner.specs.Plans.{PlannedView}
use Rattle.job_table.specs.declared.record.JobRecord.{JobRecord}
use Rattle.job_table.specs.Awaiting.{AwaitedThroughChanges}
use Rattle.job_table.specs.Table.{job_with}
use Rattle.ctl_state.specs.Laws.{OrderMoves}
use Rattle.ctl_state.specs.Soundness.{IsSound, pending_ids}
use Rattle.ctl_state.specs.State.{State}
use Rattle.ctl_waiting.specs.Candidates.{ranked}
use Rattle.ctl_pass.specs.Outcome.{outcome, placements_due}
use Rattle.ctl_pass.specs.Inputs.{input_of}
use Rattle.ctl_pass.specs.Naming.{preempts_at_all}
use Rattle.ctl_pass.specs.Preempting.{first_waiting, is_among, preemptor}
use Rattle.ctl_pass.specs.Readiness.{goes, jobs_left, placements, ready}
use Rattle.ctl_pass.specs.Starting.{begun_by, may_start, start_of}
use Rattle.ctl_pass.proofs.Due.{due-jobs}
use Rattle.ctl_pass.proofs.Lists.{next}
use Rattle.ctl_pass.proofs.Ranks.{ranked-waits}
use Rattle.ctl_pass.proofs.Readied.{going, pending-left}
use Rattle.ctl_pass.proofs.Tasks.{waits-with, with-begun, with-left}

-- what holds of all elements holds of one that is found, and that passes the test
pub found-has : {X : Type 0} (P : X → Type 0) (p : X → Bool) (xs : List X) (x : X) → All P xs → find p xs ≡ Some x
    → P x × (p x ≡ true)
found-has P p [] x all is = absurd (let never = is in cc)
found-has P p (y ∷ ys) x all is =
    let found : cond (p y) (Some y) (find p ys) ≡ Some x = is in
    elim (cases_Bool (p y)) [
      | inl here ↦ by here (rw here at found)
      | inr other ↦ found-has P p ys x (All-tail P y ys all) (rw other at found)
    ]
  where
    by : p y ≡ true → Some y ≡ Some x → P x × (p x ≡ true)
    by here same = let one : y ≡ x = cc in rw (← one) (All-head P y ys all, here)

-- the job with a number that no start has is left as it is by the starts
with-starts : (s : State) (now id : ℕ) (jobs : List JobRecord) (due : List Placed)
    → All (λ (placed : Placed). placed.id ≢ id) due
    → job_with id (fold (begun_by s.nodes now) jobs due) ≡ job_with id jobs
with-starts s now id jobs [] others = refl
with-starts s now id jobs (placed ∷ later) others =
    let Other : Placed → Type 0 = λ one. one.id ≢ id in
    let start = start_of s.nodes jobs placed in
    with-starts s now id (begun_by s.nodes now jobs placed) later (All-tail Other placed later others)
    ∙ with-begun now placed.id id start.parts start.nodes jobs (All-head Other placed later others)

-- of the candidate that is served: it stays as it is while the others start
pub served-stays : AwaitedThroughChanges → OrderMoves JobRecord → (s : State) (now : ℕ) (need : PlanJob) → IsSound s
    → first_waiting s now ≡ Some need → job_with need.id (outcome s now).jobs ≡ job_with need.id s.jobs
unfolding first_waiting
served-stays law moves s now need sound is =
    let left = jobs_left s now in
    let due = placements_due s now in
    let gone = going law s now in
    let test = λ (one : PlanJob). not (is_among due one) in
    let found = found-has (λ (one : PlanJob). Contains (pending_ids left) one.id) test (ranked (ready s now) now) need
    (ranked-waits moves (ready s now) now) is in
    let none : is_among due need ≡ false = not-true (is_among due need) found.1 in
    let others : All (λ (placed : Placed). placed.id ≢ need.id) due = λ k d below same.
    both_ways (is_among due need) none
    (list_any_at (λ (placed : Placed). eqb placed.id need.id) due k d below (eq-eqb (get_or due k d).id need.id same)) in
    let before = waits-with need.id s.jobs sound.rising (rw (pending-left now (goes s now) s.jobs gone) at found.0) in
    ap (job_with need.id) (due-jobs s now left (placements s now))
    ∙ with-starts s now need.id left due others
    ∙ with-left now need.id (goes s now) s.jobs gone before

-- the first that passes is the one at hand, or one behind it
pub found-here : (test : PlanJob → Bool) (jobs : List PlanJob) (i : ℕ) (need : PlanJob) → i < length jobs
    → need ≡ get_or jobs i need → find test (drop i jobs) ≡ find test jobs
    → cond (test need) (Some need) (find test (drop (i + 1) jobs)) ≡ find test jobs
found-here test jobs i need within is so_far = sym (ap (find test) (next jobs i need within is)) ∙ so_far

-- the candidate that is served, as it was found
pub first-is : (s : State) (now : ℕ) (made : PlannedView) (jobs : List PlanJob) (starts : List Placed)
    (found : Option PlanJob) → jobs ≡ made.ranked → made ≡ input_of s now → starts ≡ placements_due s now
    → found ≡ find (λ (job : PlanJob). not (is_among starts job)) jobs → first_waiting s now ≡ found
unfolding first_waiting
first-is s now made jobs starts found jobs_are made_is starts_are is =
    sym (is
    ∙ ap (find (λ (job : PlanJob). not (is_among starts job)))
    (jobs_are ∙ ap (λ (one : PlannedView). one.ranked) made_is)
    ∙ ap (λ (some : List Placed). find (λ (job : PlanJob). not (is_among some job)) (ranked (ready s now) now)) starts_are)

pub preemptor-is : (s : State) (now : ℕ) (need : PlanJob) (may : Bool) → preempts_at_all s.settings ≡ true
    → first_waiting s now ≡ Some need → may_start s (outcome s now).jobs need.id ≡ may
    → preemptor s now ≡ cond may (Some need) None
unfolding preemptor
preemptor-is s now need may on first is =
    let served : PlanJob → Option PlanJob = λ one. cond (may_start s (outcome s now).jobs one.id) (Some one) None in
    ap (λ (b : Bool). cond b (first_waiting s now) None >>= served) on
    ∙ ap (λ (some : Option PlanJob). some >>= served) first
    ∙ ap (λ (b : Bool). cond b (Some need) None) is

-- an element of a mapped list
pub slice_get-mapped : {X Y : Type 0} (f : X → Y) (xs : List X) (place : ℕ)
    → slice_get (map f xs) place ≡ option_map f (slice_get xs place)
slice_get-mapped f [] place = refl
slice_get-mapped f (x ∷ xs) zero = refl
slice_get-mapped f (x ∷ xs) (suc place) = slice_get-mapped f xs place
