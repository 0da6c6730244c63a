-- A job's account and quality of service stay those of its places, and so does that its association is a user's.
use Rattle.std.proofs.Common.{ℕ, ◌≡◌, ◌∙◌, true, List, [], ◌∷◌, All, Option, Some, None, refl, ap, sym, subst, slice_get}
use Rattle.std.specs.Prelude.{option_map}
use Rattle.std.specs.List.{enumerate_from}
use Rattle.std.proofs.lemmas.Bool.{cond_both}
use Rattle.std.proofs.lemmas.List.Elements.{All-cons, All-map, All-nil}
use Rattle.plain_data.specs.declared.array.ArraySpec.{ArraySpec}
use Rattle.plain_data.specs.declared.job.JobDesc.{JobDesc}
use Rattle.request_data.specs.declared.state.Final.{Final}
use Rattle.request_data.specs.declared.state.Final.TheVariants.{Requeue}
use Rattle.request_data.specs.declared.state.JobState.{JobState}
use Rattle.request_data.specs.declared.state.JobState.TheVariants.{Pending, Running, Completing, Ended}
use Rattle.node_state.specs.declared.partition_record.PartRecord.{PartRecord}
use Rattle.job_table.specs.declared.record.JobRecord.{JobRecord}
use Rattle.job_table.specs.declared.record.Part.{Part}
use Rattle.job_table.specs.declared.change.Change.{Change}
use Rattle.job_table.specs.declared.change.Change.TheVariants.{Start, Leave, CancelPending, CancelRequeue, DropPart, SetHold, SetLimit, SetNice}
use Rattle.job_table.specs.Changes.{changed, not_again, off_node, parts_off, with_left}
use Rattle.job_table.specs.JobStates.{is_pending, is_running}
use Rattle.run_limits.specs.declared.record.AssocRecord.{AssocRecord}
use Rattle.run_limits.specs.Accounts.{qos_meant}
use Rattle.ctl_state.specs.State.{State}
use Rattle.ctl_jobs.specs.Submission.{Basis, account_at, assoc_for, basis_by, basis_of, lone_job, new_jobs, partition_for, place_for, qos_for, task}
use Rattle.saved_laws.specs.Kept.{IsAsOpened, IsOfItsNames, Numbers, numbers_of}
use Rattle.saved_laws.proofs.Walks.{StaysTrue}

-- ---- what no change of a job changes

-- one of these is true of the other wherever both have these in common
pub record IsOfFixed (J : JobRecord → Type 0) : Type 0 where
  pub same : (job after : JobRecord) → after.id ≡ job.id → after.array ≡ job.array → after.index ≡ job.index
      → after.user ≡ job.user → after.terms ≡ job.terms → after.assoc ≡ job.assoc → after.qos ≡ job.qos → J job → J after

module _ (J : JobRecord → Type 0) (fixed : IsOfFixed J) where
  again-fixed : (job : JobRecord) (state : JobState) → J job → J (not_again job state)
  again-fixed job (Completing Requeue) holds = fixed.same job (not_again job (Completing Requeue)) refl refl refl refl refl refl refl holds
  again-fixed job state holds = holds

  left-fixed : (now : ℕ) (end : Final) (parts : List Part) (job : JobRecord) → J job → J (with_left now end parts job)
  left-fixed now end [] job holds = fixed.same job (with_left now end [] job) refl refl refl refl refl refl refl holds
  left-fixed now end (part ∷ later) job holds =
      fixed.same job (with_left now end (part ∷ later) job) refl refl refl refl refl refl refl holds

  off-fixed : (now node : ℕ) (job : JobRecord) (state : JobState) → J job → J (off_node now node job state)
  off-fixed now node job Pending holds = holds
  off-fixed now node job Running holds = holds
  off-fixed now node job (Completing end) holds = left-fixed now end (parts_off node job.parts) job holds
  off-fixed now node job (Ended end) holds = holds

  changed-fixed : (change : Change) (job : JobRecord) → J job → J (changed change job)
  changed-fixed (Start now parts nodes) job holds =
      fixed.same job (changed (Start now parts nodes) job) refl refl refl refl refl refl refl holds
  changed-fixed (Leave end now exit) job holds =
      cond_both (is_running job.state) (record job { state = Completing end; ended = Some now; exit = exit }) job J
      (λ runs. fixed.same job (record job { state = Completing end; ended = Some now; exit = exit }) refl refl refl refl refl refl refl holds)
      (λ not. holds)
  changed-fixed (CancelPending now) job holds =
      cond_both (is_pending job.state) _ job J
      (λ waits. fixed.same job _ refl refl refl refl refl refl refl holds) (λ not. holds)
  changed-fixed CancelRequeue job holds = again-fixed job job.state holds
  changed-fixed (DropPart node now) job holds = off-fixed now node job job.state holds
  changed-fixed (SetHold by) job holds = fixed.same job (changed (SetHold by) job) refl refl refl refl refl refl refl holds
  changed-fixed (SetLimit limit) job holds = fixed.same job (changed (SetLimit limit) job) refl refl refl refl refl refl refl holds
  changed-fixed (SetNice nice) job holds = fixed.same job (changed (SetNice nice) job) refl refl refl refl refl refl refl holds

  pub fixed_stays : StaysTrue J
  fixed_stays = record {
    changes = changed-fixed;
    lefts = λ now end parts job completes holds. left-fixed now end parts job holds;
    moves = λ parts partition job holds.
        fixed.same job (record job { parts = parts; partition = partition }) refl refl refl refl refl refl refl holds;
  }

abbrev numbers-by : ℕ → Option ℕ → Option ℕ → Option ℕ → Numbers
numbers-by id array index at_once = record { id = id; array = array; index = index; at_once = at_once }

pub names_fixed : (s : State) → IsOfFixed (IsOfItsNames s)
names_fixed s = record {
  same = λ job after id array index user terms assoc qos names. record {
    account = ap (λ terms. terms.account) terms ∙ names.account ∙ ap (account_at s.assocs) (sym assoc);
    qos = ap (λ terms. qos_meant s.qos (Some terms.qos)) terms ∙ names.qos ∙ ap Some (sym qos);
  };
}

-- and these are its numbers
pub numbers_fixed : (numbers : Numbers) → IsOfFixed (λ (job : JobRecord). numbers_of job ≡ numbers)
numbers_fixed numbers = record {
  same = λ job after id array index user terms assoc qos holds.
      ap (λ (id : ℕ). numbers-by id after.array after.index after.terms.at_once) id
      ∙ ap (λ (array : Option ℕ). numbers-by job.id array after.index after.terms.at_once) array
      ∙ ap (λ (index : Option ℕ). numbers-by job.id job.array index after.terms.at_once) index
      ∙ ap (λ terms. numbers-by job.id job.array job.index terms.at_once) terms ∙ holds;
}

-- the job's association is a user's
pub record IsOfUser (assocs : List AssocRecord) (job : JobRecord) : Type 0 where
  pub user : option_map (λ (assoc : AssocRecord). assoc.conf.user) (slice_get assocs job.assoc) ≡ Some true

pub user_fixed : (assocs : List AssocRecord) → IsOfFixed (IsOfUser assocs)
user_fixed assocs = record {
  same = λ job after id array index user terms assoc qos of. record {
    user = ap (λ place. option_map (λ (assoc : AssocRecord). assoc.conf.user) (slice_get assocs place)) assoc ∙ of.user;
  };
}

-- ---- new jobs

-- what is true of the one job of a submission and of each task of its array is true of all that it makes
pub new_true : (J : JobRecord → Type 0) (s : State) (moment : ℕ) (user : List ℕ) (desc : JobDesc) (basis : Basis)
    → J (lone_job s moment user desc basis) → ((one : ℕ × ℕ) → J (task s moment user desc basis one))
    → (array : Option ArraySpec) → All J (new_jobs s moment user desc basis array)
unfolding new_jobs
new_true J s moment user desc basis lone tasks None =
    All-cons J (lone_job s moment user desc basis) [] lone (All-nil J)
new_true J s moment user desc basis lone tasks (Some array) =
    All-map J (task s moment user desc basis) (enumerate_from 0 array.indices)
    (all-tasks (enumerate_from 0 array.indices))
  where
    all-tasks : (ones : List (ℕ × ℕ)) → All (λ one. J (task s moment user desc basis one)) ones
    all-tasks [] = All-nil (λ (one : ℕ × ℕ). J (task s moment user desc basis one))
    all-tasks (one ∷ ones) = All-cons (λ (one : ℕ × ℕ). J (task s moment user desc basis one)) one ones (tasks one) (all-tasks ones)

-- what the basis of a submission is
pub record IsBasis (s : State) (desc : JobDesc) (basis : Basis) : Type 0 where
  pub account : basis.account ≡ account_at s.assocs basis.assoc
  pub qos : qos_for s desc ≡ Some basis.qos

basis-by : (s : State) (desc : JobDesc) (assoc qos place : Option ℕ) (partition : Option PartRecord) (basis : Basis)
    → qos_for s desc ≡ qos → basis_by s assoc qos place partition ≡ Some basis → IsBasis s desc basis
basis-by s desc (Some assoc) (Some qos) (Some place) (Some partition) basis of is =
    let made : Basis = record {
      account = account_at s.assocs assoc;
      assoc = assoc;
      qos = qos;
      place = place;
      partition = partition;
    } in
    let same : made ≡ basis = cc in
    subst (IsBasis s desc) same (record { account = refl; qos = of })
basis-by s desc None qos place partition basis of is = absurd (cc)
basis-by s desc (Some assoc) None place partition basis of is = absurd (cc)
basis-by s desc (Some assoc) (Some qos) None partition basis of is = absurd (cc)
basis-by s desc (Some assoc) (Some qos) (Some place) None basis of is = absurd (cc)

pub is_basis : (s : State) (user : List ℕ) (desc : JobDesc) (basis : Basis) → basis_of s user desc ≡ Some basis
    → IsBasis s desc basis
unfolding basis_of
is_basis s user desc basis is =
    basis-by s desc (assoc_for s user desc) (qos_for s desc) (place_for s desc) (partition_for s desc) basis refl is

-- new jobs are of their names
pub new_names : (opened s : State) → IsAsOpened opened s → (moment : ℕ) (user : List ℕ) (desc : JobDesc) (basis : Basis)
    → basis_of s user desc ≡ Some basis → All (IsOfItsNames opened) (new_jobs s moment user desc basis desc.array)
new_names opened s stays moment user desc basis is =
    let of = is_basis s user desc basis is in
    let account : basis.account ≡ account_at opened.assocs basis.assoc =
    of.account ∙ ap (λ assocs. account_at assocs basis.assoc) stays.assocs in
    let qos : qos_for opened desc ≡ Some basis.qos = ap (λ qos. qos_meant qos desc.qos) (sym stays.qos) ∙ of.qos in
    new_true (IsOfItsNames opened) s moment user desc basis
    (record { account = account; qos = qos }) (λ one. record { account = account; qos = qos }) desc.array
