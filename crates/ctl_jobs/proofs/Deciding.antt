-- What is decided of a submission under its basis is decided of it.
use Rattle.std.proofs.Common.{◌≡◌, ℕ, ◌<◌, ◌≤◌, ◌∙◌, false, List, [], ◌∷◌, All, IfOk, Option, Some, None, Result, Ok, Err, refl, sym, ap, subst, arith}
use Rattle.std.specs.Prelude.{is_none, option_and_then, slice_get}
use Rattle.std.proofs.lemmas.Option.{get_or_from_slice_get, slice_get_within}
use Rattle.small_texts.specs.declared.memory_error.Memory.{Memory}
use Rattle.plain_data.specs.declared.job.JobDesc.{JobDesc}
use Rattle.reply_data.specs.declared.refusal.Refusal.{Refusal}
use Rattle.reply_data.specs.declared.refusal.Refusal.TheVariants.{InvalidAccount, InvalidPartition, InvalidQos, PartitionClosed}
use Rattle.reply_data.specs.declared.reply.Reply.TheVariants.{Submitted}
use Rattle.node_state.specs.declared.partition_record.PartRecord.{PartRecord}
use Rattle.job_table.specs.declared.record.JobRecord.{JobRecord}
use Rattle.ctl_state.specs.State.{State}
use Rattle.ctl_state.specs.Refusals.{first_refusal, refused_if}
use Rattle.ctl_state.specs.Verdicts.{Makes}
use Rattle.ctl_jobs.specs.declared.draft.Draft.{Draft}
use Rattle.ctl_jobs.specs.declared.handed.Handed.{Handed}
use Rattle.ctl_jobs.specs.Drafts.{IsDecidedIn, basis_in}
use Rattle.ctl_jobs.specs.Submission.{CanAdd, IsDecided, Basis, account_at, assoc_for, is_closed, made_under, new_arrays, new_jobs, partition_for, place_for, qos_for, refusals_by, refusals_under, submit_after, submit_refusals, takes_none, basis_by, basis_of}
use Rattle.ctl_jobs.proofs.Made.{All-new_jobs, AllPairs-new_jobs, length-new_jobs}
use Rattle.ctl_jobs.proofs.Refused.{rooms}

-- what holds of each member holds of one at a place
pub All-at : {X : Type 0} (P : X → Type 0) (xs : List X) (k : ℕ) (x : X) → All P xs → slice_get xs k ≡ Some x → P x
All-at P xs k x all there = subst P (get_or_from_slice_get xs k x x there) (all k x (slice_get_within xs k x there))

-- the basis, where all of them are there
basis-there : (s : State) (assoc qos place : Option ℕ) (partition : Option PartRecord)
    (by of at : ℕ) (its : PartRecord) → assoc ≡ Some by → qos ≡ Some of → place ≡ Some at → partition ≡ Some its
    → basis_by s assoc qos place partition
    ≡ Some (record { account = account_at s.assocs by; assoc = by; qos = of; place = at; partition = its })
basis-there s assoc qos place partition by of at its known good named there = rw (known, good, named, there) refl

-- the first refusal under them is the first of all
first-under : (s : State) (moment : ℕ) (user : List ℕ) (desc : JobDesc) (assoc qos : Option ℕ)
    (partition : Option PartRecord) (found : Option Basis) (by of : ℕ) (its : PartRecord) (basis : Basis)
    → assoc ≡ Some by → partition ≡ Some its → is_closed its.state ≡ false → qos ≡ Some of → found ≡ Some basis
    → first_refusal (refused_if (is_none assoc) InvalidAccount
    ∷ refused_if (is_none partition) InvalidPartition ∷ refused_if (takes_none partition) PartitionClosed
    ∷ refused_if (is_none qos) InvalidQos ∷ refusals_by s moment user desc found)
    ≡ first_refusal (refusals_under s moment user desc basis)
first-under s moment user desc assoc qos partition found by of its basis known there takes good under =
    rw (known, there, takes, good, under) refl

made-there : (s : State) (moment : ℕ) (user : List ℕ) (desc : JobDesc) (by : Option Basis) (basis : Basis)
    → by ≡ Some basis
    → made_under s moment user desc by ≡ Makes (Submitted s.next_id)
    (submit_after s (new_jobs s moment user desc basis desc.array) (new_arrays s desc.array))
made-there s moment user desc by basis under = rw under refl

-- what isn't refused can be added
pub can-add : (s : State) (moment : ℕ) (user : List ℕ) (desc : JobDesc) (basis : Basis)
    → first_refusal (refusals_under s moment user desc basis) ≡ None
    → CanAdd s (new_jobs s moment user desc basis desc.array)
can-add s moment user desc basis none =
    let room = rooms s moment user desc basis none in
    let count = length-new_jobs s moment user desc basis desc.array in
    record {
      rising = AllPairs-new_jobs (λ (one other : JobRecord). one.id < other.id) s moment user desc basis desc.array
          (λ one other own others before. before);
      above = All-new_jobs (λ (job : JobRecord). s.next_id ≤ job.id) s moment user desc basis desc.array
          (λ id of own least below first. least);
      nothing = All-new_jobs (λ (job : JobRecord). job.parts ≡ []) s moment user desc basis desc.array
          (λ id of own least below first. refl);
      room = omega (arith, room.0, count);
      numbers = omega (arith, room.1, count);
    }

-- what was found for a draft
pub record IsFound (s : State) (draft : Draft) : Type 0 where
  pub assoc : assoc_for s draft.user.now draft.desc.now ≡ Some draft.assoc
  pub qos : qos_for s draft.desc.now ≡ Some draft.qos
  pub place : place_for s draft.desc.now ≡ Some draft.place
  pub partition : slice_get s.partitions draft.place ≡ Some draft.partition.now
  pub takes_jobs : is_closed draft.partition.now.state ≡ false
  pub account : draft.account ≡ account_at s.assocs draft.assoc

partition-of : (s : State) (draft : Draft) → IsFound s draft
    → partition_for s draft.desc.now ≡ Some draft.partition.now
partition-of s draft found = ap (option_and_then (slice_get s.partitions)) found.place ∙ found.partition

basis-of : (s : State) (draft : Draft) → IsFound s draft
    → basis_of s draft.user.now draft.desc.now ≡ Some (basis_in draft)
unfolding basis_of
basis-of s draft found =
    let its : PartRecord = draft.partition.now in
    basis-there s (assoc_for s draft.user.now draft.desc.now) (qos_for s draft.desc.now) (place_for s draft.desc.now)
    (partition_for s draft.desc.now) draft.assoc draft.qos draft.place its found.assoc found.qos found.place
    (partition-of s draft found)
    ∙ ap (λ (name : List ℕ). Some (with-account name)) (sym found.account)
  where
    with-account : List ℕ → Basis
    with-account name = record {
      account = name;
      assoc = draft.assoc;
      qos = draft.qos;
      place = draft.place;
      partition = draft.partition.now;
    }

under-draft : (s : State) (draft : Draft) → IsFound s draft
    → first_refusal (submit_refusals s draft.moment draft.user.now draft.desc.now)
    ≡ first_refusal (refusals_under s draft.moment draft.user.now draft.desc.now (basis_in draft))
under-draft s draft found =
    first-under s draft.moment draft.user.now draft.desc.now (assoc_for s draft.user.now draft.desc.now)
    (qos_for s draft.desc.now) (partition_for s draft.desc.now) (basis_of s draft.user.now draft.desc.now) draft.assoc
    draft.qos draft.partition.now (basis_in draft) found.assoc (partition-of s draft found) found.takes_jobs found.qos
    (basis-of s draft found)

-- what is decided of a draft is decided of what the user handed in
pub decided : (s : State) (draft : Draft) (decision : Result Handed Refusal) → IsFound s draft
    → IsDecidedIn s draft decision → IsDecided s draft.moment draft.user.now draft.desc.now decision
decided s draft (Err refusal) found is = under-draft s draft found ∙ is
decided s draft (Ok handed) found is = (
  under-draft s draft found ∙ is.0,
  rw (is.1.jobs, is.1.arrays) (made-there s draft.moment draft.user.now draft.desc.now
      (basis_of s draft.user.now draft.desc.now) (basis_in draft) (basis-of s draft found)),
  rw is.1.jobs (can-add s draft.moment draft.user.now draft.desc.now (basis_in draft) is.0),
)

pub decided-if : (s : State) (draft : Draft) (outcome : Result (Result Handed Refusal) Memory) → IsFound s draft
    → IfOk outcome (IsDecidedIn s draft)
    → IfOk outcome (IsDecided s draft.moment draft.user.now draft.desc.now)
decided-if s draft (Ok decision) found is = decided s draft decision found is
decided-if s draft (Err memory) found is = tt
