-- A submission, whatever the sum of sizes.
use Rattle.std.proofs.Common.{ℕ, ◌≡◌, List, Option, Some, None, refl}
use Rattle.plain_data.specs.declared.job.JobDesc.{JobDesc}
use Rattle.ctl_state.specs.State.{State}
use Rattle.ctl_jobs.specs.Submission.{Basis, basis_of, is_placeable, made_under, new_jobs, refusals_by, submit_made, submit_refusals}
use Rattle.saved_laws.specs.Rooms.{sized}
use Rattle.saved_laws.proofs.Resized.{sized_by}

by-basis : (size : ℕ) (s : State) (moment : ℕ) (user : List ℕ) (desc : JobDesc) (basis : Option Basis)
    → refusals_by (sized size s) moment user desc basis ≡ refusals_by s moment user desc basis
unfolding is_placeable
by-basis size s moment user desc None = refl
by-basis size s moment user desc (Some basis) = refl

pub submit_refusals_sized : (size : ℕ) (s : State) (moment : ℕ) (user : List ℕ) (desc : JobDesc)
    → submit_refusals (sized size s) moment user desc ≡ submit_refusals s moment user desc
unfolding basis_of is_placeable
submit_refusals_sized size s moment user desc = refl

made-by : (size : ℕ) (s : State) (moment : ℕ) (user : List ℕ) (desc : JobDesc) (basis : Option Basis)
    → made_under (sized size s) moment user desc basis ≡ sized_by size (made_under s moment user desc basis)
unfolding new_jobs
made-by size s moment user desc None = refl
made-by size s moment user desc (Some basis) = refl

pub submit_made_sized : (size : ℕ) (s : State) (moment : ℕ) (user : List ℕ) (desc : JobDesc)
    → submit_made (sized size s) moment user desc ≡ sized_by size (submit_made s moment user desc)
unfolding basis_of
submit_made_sized size s moment user desc = made-by size s moment user desc (basis_of s user desc)
