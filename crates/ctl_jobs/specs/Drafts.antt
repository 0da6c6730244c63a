-- A submission with its basis, and what is decided of it.
use Rattle.std.specs.Prelude.{◌≡◌, ℕ, ◌+◌, List, Option, Some, None, Result, Ok, Err}
use Rattle.std.specs.Option.{option_to_list}
use Rattle.reply_data.specs.declared.refusal.Refusal.{Refusal}
use Rattle.job_table.specs.declared.record.JobRecord.{JobRecord}
use Rattle.job_table.specs.declared.terms.Terms.{Terms}
use Rattle.ctl_state.specs.Refusals.{first_refusal}
use Rattle.ctl_state.specs.State.{State}
use Rattle.ctl_jobs.specs.declared.draft.Draft.{Draft}
use Rattle.ctl_jobs.specs.declared.handed.Handed.{Handed}
use Rattle.ctl_jobs.specs.Submission.{Basis, job_on, lone_job, new_arrays, new_jobs, refusals_under, settled}

-- the basis of a draft
abbrev pub basis_in : Draft → Basis
basis_in draft = record {
  account = draft.account;
  assoc = draft.assoc;
  qos = draft.qos;
  place = draft.place;
  partition = draft.partition.now;
}

-- the terms that are settled for it
abbrev pub terms_in : State → Draft → Terms
terms_in s draft = settled s (basis_in draft) draft.desc.now

-- a job that it makes on these terms, the task with this index of the array with that number
abbrev pub job_by : Draft → Terms → ℕ → Option ℕ → Option ℕ → JobRecord
job_by draft terms id array index =
    job_on terms draft.moment draft.user.now draft.desc.now (basis_in draft) id array index

-- the one that it makes where it is no array
abbrev pub lone_in : State → Draft → JobRecord
lone_in s draft = lone_job s draft.moment draft.user.now draft.desc.now (basis_in draft)

-- a task of its array on these terms, by its place among the indices and its index, where the first has this number
abbrev pub task_by : Draft → Terms → ℕ → ℕ × ℕ → JobRecord
task_by draft terms first (place, index) = job_by draft terms (first + place) (Some first) (Some index)

-- why it may be refused, in their order
abbrev pub refusals_in : State → Draft → List (Option Refusal)
refusals_in s draft = refusals_under s draft.moment draft.user.now draft.desc.now (basis_in draft)

-- what it makes
pub record HasMade (s : State) (draft : Draft) (handed : Handed) : Type 0 where
  pub jobs : handed.jobs.items
      ≡ new_jobs s draft.moment draft.user.now draft.desc.now (basis_in draft) draft.desc.now.array
  pub arrays : option_to_list handed.array ≡ new_arrays s draft.desc.now.array

-- it is refused for its first refusal, or makes these jobs
abbrev pub IsDecidedIn : State → Draft → Result Handed Refusal → Type 0
IsDecidedIn s draft (Err refusal) = first_refusal (refusals_in s draft) ≡ Some refusal
IsDecidedIn s draft (Ok handed) = (first_refusal (refusals_in s draft) ≡ None) × HasMade s draft handed
