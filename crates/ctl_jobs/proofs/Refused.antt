-- A submission that isn't refused.
use Rattle.std.proofs.Common.{◌≡◌, ℕ, ◌+◌, ◌≤◌, Bool, true, false, List, [], ◌∷◌, ◌++◌, length, Option, Some, None, refl}
use Rattle.std.specs.Prelude.{nat_lt, not}
use Rattle.std.specs.Option.{option_or}
use Rattle.std.proofs.lemmas.Bool.{ltb-false}
use Rattle.plain_data.specs.declared.job.JobDesc.{JobDesc}
use Rattle.reply_data.specs.declared.refusal.Refusal.{Refusal}
use Rattle.reply_data.specs.declared.refusal.Refusal.TheVariants.{AccessDenied, NodesNotAvailable, NotAllowedHere, JobTableFull, ArrayTooLarge, UnknownNode, BadDependency, InvalidReservation, JobIdsSpent}
use Rattle.run_limits.specs.Submitting.{submit_limits}
use Rattle.ctl_state.specs.Counted.{counted_of}
use Rattle.ctl_state.specs.State.{State, last_job_id}
use Rattle.ctl_state.specs.Refusals.{first_refusal, refused_if}
use Rattle.ctl_jobs.specs.Submission.{Basis, beside_unended, count_of_jobs, is_bad_dependency, is_placeable, is_too_large, lone_job, may_not_raise, may_not_use, names_unknown, quality_of, refusals_under, takes_jobs_of}

-- the first of refusals that come to none: it doesn't stand, and the others come to none
pub none-first : (refusal : Refusal) (stands : Bool) (later : List (Option Refusal))
    → first_refusal (refused_if stands refusal ∷ later) ≡ None → (stands ≡ false) × (first_refusal later ≡ None)
none-first refusal true later none = absurd (cc)
none-first refusal false later none = (refl, none)

-- where the first of refusals and of further ones come to none, the further ones do
pub none-later : (some later : List (Option Refusal)) → first_refusal (some ++ later) ≡ None
    → first_refusal later ≡ None
none-later [] later none = none
none-later (None ∷ some) later none = none-later some later none
none-later (Some refusal ∷ some) later none = absurd (let never = none in cc)

-- the first of refusals and of further ones is the first of the former, or else of the latter
pub first_joined : (some later : List (Option Refusal))
    → first_refusal (some ++ later) ≡ option_or (first_refusal some) (first_refusal later)
first_joined [] later = refl
first_joined (None ∷ some) later = first_joined some later
first_joined (Some refusal ∷ some) later = refl

-- there is room for its jobs, and there are numbers for them
pub rooms : (s : State) (moment : ℕ) (user : List ℕ) (desc : JobDesc) (basis : Basis)
    → first_refusal (refusals_under s moment user desc basis) ≡ None
    → (length s.jobs + count_of_jobs desc.array ≤ s.settings.max_job_count)
    × (s.next_id + count_of_jobs desc.array ≤ last_job_id + 1)
rooms s moment user desc basis none =
    let lone = lone_job s moment user desc basis in
    let taken = none-first NotAllowedHere
    (not (takes_jobs_of basis.partition basis.account (quality_of desc))) _ none in
    let usable = none-first InvalidReservation (may_not_use s user basis.account desc) _ taken.1 in
    let nice = none-first AccessDenied (may_not_raise s user desc) _ usable.1 in
    let known = none-first UnknownNode (names_unknown s desc) _ nice.1 in
    let placed = none-first NodesNotAvailable (not (is_placeable s basis.partition lone)) _ known.1 in
    let small = none-first ArrayTooLarge (is_too_large s desc.array) _ placed.1 in
    let good = none-first BadDependency (is_bad_dependency s desc.array lone.terms.dependency) _ small.1 in
    let within = none-later (submit_limits (beside_unended s) (counted_of lone) (count_of_jobs desc.array)) _ good.1 in
    let few = none-first JobTableFull
    (nat_lt s.settings.max_job_count (length s.jobs + count_of_jobs desc.array)) _ within in
    let left = none-first JobIdsSpent
    (nat_lt (last_job_id + 1) (s.next_id + count_of_jobs desc.array)) _ few.1 in
    (ltb-false _ _ few.0, ltb-false _ _ left.0)
