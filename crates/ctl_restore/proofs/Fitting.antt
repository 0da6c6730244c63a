-- What fits, seen from the sound state that is restored of it.
use Rattle.std.proofs.Common.{◌≡◌, ℕ, ◌<◌, ◌≤◌, Bool, true, List, [], ◌∷◌, length, map, All, AllPairs, get_or, Option, Some, None, refl, ap, ◌∙◌, arith}
use Rattle.std.specs.Prelude.{◌≢◌, Err, Ok, OnOk, Result, is_some, unwrap_or, option_map, slice_get, position}
use Rattle.std.proofs.lemmas.Bool.{and_parts}
use Rattle.std.proofs.lemmas.List.Elements.{All-append, All-cons, All-head, All-map, All-tail}
use Rattle.std.proofs.lemmas.List.Quantifiers.{position-Some}
use Rattle.std.proofs.lemmas.Option.{slice_get-get_or}
use Rattle.plain_data.specs.Assocs.{AssocView}
use Rattle.plain_data.specs.Confs.{ConfView}
use Rattle.plain_data.specs.declared.conf.NodeConf.{NodeConf}
use Rattle.plain_data.specs.declared.conf.NodeStart.{NodeStart}
use Rattle.plain_data.specs.declared.conf.NodeStart.TheVariants.{Unknown, Down, Drain}
use Rattle.node_state.specs.declared.record.DownBy.TheVariants.{Silent}
use Rattle.node_state.specs.declared.record.NodeRecord.{NodeRecord}
use Rattle.node_state.specs.Nodes.{down_at_start, opened}
use Rattle.list_lemmas.proofs.Elements.{all-left, all-right}
use Rattle.ctl_state.specs.Holding.{parts_of}
use Rattle.job_table.specs.declared.record.JobRecord.{JobRecord}
use Rattle.job_table.specs.declared.record.Part.{Part}
use Rattle.job_table.specs.Table.{HaveRisingIds}
use Rattle.run_limits.specs.Accounts.{is_of_user, is_users_in}
use Rattle.ctl_state.specs.Soundness.{AreOfPartitions, AreUp, IsOfAccounts, IsSound, PlansPending, is_up_at}
use Rattle.ctl_state.specs.State.{State, opening}
use Rattle.saved_data.specs.declared.job.SavedJob.{SavedJob}
use Rattle.saved_data.specs.declared.saved.Saved.{Saved}
use Rattle.ctl_restore.specs.Fits.{Fits, IsEmptyOnce, IsKnown, IsKnownJob, IsStanding, is_node, is_partition, is_qos, is_user_of}
use Rattle.ctl_restore.specs.Parts.{AreReserved, AreWellKept, HasParts}
use Rattle.ctl_restore.specs.Restored.{came_back, gone_names, restored, restored_job, restored_node, restored_over, restored_part, restored_placed, standings}
use Rattle.ctl_restore.specs.Steps.{IsOnUp, IsPlain, IsUnheard}
use Rattle.ctl_restore.proofs.Tasks.{all-unmap, pairs-map, pairs-unmap, together}
use Rattle.ctl_restore.proofs.Assembly.{AreRestored}

abbrev Below : JobRecord → JobRecord → Type 0
Below one other = one.id < other.id

pub fits-plain : (conf : ConfView) (file : AssocView) (saved : Saved) → Fits conf file saved → IsPlain saved
unfolding restored_over restored_job
fits-plain conf file saved fits = record {
  beside = record {
    moment = fits.sound.moment;
    next = fits.sound.next;
    partitions = fits.once.partitions;
    standing = fits.standing;
    usage = fits.usage;
  };
  numbered = record {
    apart = fits.once.arrays;
    rising = pairs-unmap Below (restored_job (opening conf file)) saved.jobs fits.sound.rising;
    below_next = all-unmap (λ (job : JobRecord). job.id < saved.next_id) (restored_job (opening conf file)) saved.jobs
        fits.sound.below_next;
    few = fits.few;
  };
  arrays = fits.arrays;
  timed = fits.timed;
}

-- a place that is found is one that there is, of a member that passes
there : {X : Type 0} (p : X → Bool) (xs : List X) (found : Option ℕ) → position p xs ≡ found → is_some found ≡ true
    → (unwrap_or found 0 < length xs)
there p xs None is some = absurd (let never = some in cc)
there p [] (Some place) is some = absurd (let never = is in cc)
there p (x ∷ xs) (Some place) is some = (position-Some p (x ∷ xs) place x is).0

passing : {X : Type 0} (p q : X → Bool) (xs : List X) (found : Option ℕ) → ((x : X) → p x ≡ true → q x ≡ true)
    → position p xs ≡ found → is_some found ≡ true
    → option_map q (slice_get xs (unwrap_or found 0)) ≡ Some true
passing p q xs None so is some = absurd (let never = some in cc)
passing p q [] (Some place) so is some = absurd (let never = is in cc)
passing p q (x ∷ xs) (Some place) so is some =
    let at-place = position-Some p (x ∷ xs) place x is in
    ap (option_map q) (slice_get-get_or (x ∷ xs) place x at-place.0) ∙ ap Some (so (get_or (x ∷ xs) place x) at-place.1)

pub of-partitions : (s : State) (saved : Saved) → All (IsKnownJob s) saved.jobs
    → AreOfPartitions s.partitions (map (restored_job s) saved.jobs)
unfolding restored_job is_partition
of-partitions s saved known =
    All-map (λ (job : JobRecord). job.partition < length s.partitions) (restored_job s) saved.jobs
    (λ k d below. there _ s.partitions _ refl (known k d below).partition)

pub of-accounts : (s : State) (saved : Saved) → All (IsKnownJob s) saved.jobs
    → All (IsOfAccounts s.assocs s.qos) (map (restored_job s) saved.jobs)
unfolding restored_job is_user_of is_qos
of-accounts s saved known =
    All-map (IsOfAccounts s.assocs s.qos) (restored_job s) saved.jobs
    (λ k d below. record {
      assoc = passing (is_users_in s.assocs (get_or saved.jobs k d).user (get_or saved.jobs k d).terms.account)
          (is_of_user (get_or saved.jobs k d).user) s.assocs _
          (λ assoc has. (and_parts (is_of_user (get_or saved.jobs k d).user assoc) _ has).0) refl
          (known k d below).assoc;
      qos = there _ s.qos _ refl (known k d below).qos;
    })

-- each part of a job is of a node that there is
pub parts-there : (s : State) (saved : Saved) → All (IsKnownJob s) saved.jobs → length s.nodes ≤ 1024
    → All (λ (job : JobRecord). All (λ (part : Part). part.node < 1024) job.parts) (map (restored_job s) saved.jobs)
unfolding restored_job is_node
parts-there s saved known few =
    All-map (λ (job : JobRecord). All (λ (part : Part). part.node < 1024) job.parts) (restored_job s) saved.jobs
    (λ k d below. All-map (λ (part : Part). part.node < 1024) (restored_part s.nodes) (get_or saved.jobs k d).parts
    (λ j e inside. omega (arith, few, there _ s.nodes _ refl ((known k d below).nodes j e inside))))

pub rising-restored : (s : State) (saved : Saved)
    → AllPairs (λ (one other : SavedJob). one.id < other.id) saved.jobs
    → HaveRisingIds (map (restored_job s) saved.jobs)
unfolding restored_job
rising-restored s saved rising = pairs-map Below (restored_job s) saved.jobs rising

below-restored : (s : State) (saved : Saved) → All (λ (job : SavedJob). job.id < saved.next_id) saved.jobs
    → All (λ (job : JobRecord). job.id < saved.next_id) (map (restored_job s) saved.jobs)
unfolding restored_job
below-restored s saved low = All-map (λ (job : JobRecord). job.id < saved.next_id) (restored_job s) saved.jobs low

pub are-restored : (s : State) (saved : Saved) → IsPlain saved → IsKnown s saved → AreReserved s.nodes saved
    → AreWellKept saved.moment (map (restored_node (standings saved)) s.nodes) (map (restored_job s) saved.jobs)
    → PlansPending (map (restored_job s) saved.jobs) (map (restored_placed s.nodes (gone_names s.nodes saved.plan)) saved.plan) → AreRestored s saved
are-restored s saved plain known reserved kept plan = record {
  of_partitions = of-partitions s saved known.jobs;
  of_accounts = of-accounts s saved known.jobs;
  reservations = reserved.apart;
  rising = rising-restored s saved plain.numbered.rising;
  below_next = below-restored s saved plain.numbered.below_next;
  together = together s saved plain.arrays plain.numbered.rising;
  next = plain.beside.next;
  moment = plain.beside.moment;
  jobs = kept.kept;
  held = kept.held;
  up = kept.up;
  plan = plan;
}

pub well-kept : (s : State) (saved : Saved) → IsSound (restored_over s saved)
    → AreWellKept saved.moment (map (restored_node (standings saved)) s.nodes) (map (restored_job s) saved.jobs)
unfolding restored_over
well-kept s saved sound = record { held = sound.held; up = sound.up; kept = sound.jobs }

pub plan-sound : (s : State) (saved : Saved) → IsSound (restored_over s saved)
    → PlansPending (map (restored_job s) saved.jobs) (map (restored_placed s.nodes (gone_names s.nodes saved.plan)) saved.plan)
unfolding restored_over
plan-sound s saved sound = sound.plan

-- what fits has all parts, and is what has all parts of a sound state
pub fits-parts : (conf : ConfView) (file : AssocView) (saved : Saved) → Fits conf file saved
    → HasParts (opening conf file) saved
unfolding restored_over
fits-parts conf file saved fits = record {
  plain = fits-plain conf file saved fits;
  known = fits.known;
  told = record { known = fits.known.usage; apart = fits.once.usage };
  reserved = record { seconds = fits.seconds; apart = fits.sound.reservations };
  once = fits.once.nodes;
}

pub parts-fit : (conf : ConfView) (file : AssocView) (saved : Saved) → HasParts (opening conf file) saved
    → IsSound (restored conf file saved) → Fits conf file saved
parts-fit conf file saved parts sound = record {
  known = parts.known;
  once = record {
    partitions = parts.plain.beside.partitions;
    nodes = parts.once;
    usage = parts.told.apart;
    arrays = parts.plain.numbered.apart;
  };
  standing = parts.plain.beside.standing;
  usage = parts.plain.beside.usage;
  seconds = parts.reserved.seconds;
  arrays = parts.plain.arrays;
  timed = parts.plain.timed;
  few = parts.plain.numbered.few;
  sound = sound;
}

-- what follows where a result is good
pub on-ok : {A E : Type 0} (r : Result A E) (P Q : Type 0) → OnOk r P → (P → Q) → OnOk r Q
on-ok (Ok a) P Q is follows = follows is
on-ok (Err e) P Q is follows = tt

-- nothing says that a node is empty once which comes back
pub all-empty-once : (saved : Saved) → All (IsStanding saved.moment) saved.nodes → All IsEmptyOnce (standings saved)
all-empty-once saved standing =
    All-append IsEmptyOnce saved.nodes (map (came_back saved.moment) saved.dropped)
    (λ k d below. (standing k d below).empty)
    (All-map IsEmptyOnce (came_back saved.moment) saved.dropped (λ k d below yes. absurd (let never = yes in cc)))

-- what all jobs hold is of nodes that are up, job by job
pub up-parts : (nodes : List NodeRecord) (jobs : List JobRecord) → All (IsOnUp nodes) jobs → AreUp nodes (parts_of jobs)
up-parts nodes [] all = λ k d below. absurd (omega (arith, below))
up-parts nodes (job ∷ jobs) all =
    All-append (λ (part : Part). is_up_at nodes part.node ≡ true) job.parts (parts_of jobs)
    (All-head (IsOnUp nodes) job jobs all).up (up-parts nodes jobs (All-tail (IsOnUp nodes) job jobs all))

pub parts-up : (nodes : List NodeRecord) (jobs : List JobRecord) → AreUp nodes (parts_of jobs) → All (IsOnUp nodes) jobs
parts-up nodes [] up = λ k d below. absurd (omega (arith, below))
parts-up nodes (job ∷ jobs) up =
    All-cons (IsOnUp nodes) job jobs
    (record { up = all-left (λ (part : Part). is_up_at nodes part.node ≡ true) job.parts (parts_of jobs) up })
    (parts-up nodes jobs (all-right (λ (part : Part). is_up_at nodes part.node ≡ true) job.parts (parts_of jobs) up))

-- nothing was heard of nodes as slurm.conf says them
not-silent : (start : NodeStart) → down_at_start start ≢ Silent
not-silent Unknown is = absurd cc
not-silent Down is = absurd cc
not-silent Drain is = absurd cc

pub all-unheard : (confs : List NodeConf) → All IsUnheard (map opened confs)
all-unheard confs =
    All-map IsUnheard opened confs
    (λ k d below. record { heard = refl; empty = refl; down = not-silent (get_or confs k d).state })

-- one error is another where the results of both are one
pub err-same : {A E : Type 0} (one other : E) → ◌≡◌ {A = Result A E} (Err one) (Err other) → one ≡ other
err-same one other is = cc

pub err-of : {A B E : Type 0} (one other : E) → ◌≡◌ {A = Result A E} (Err one) (Err other)
    → ◌≡◌ {A = Result B E} (Err one) (Err other)
err-of one other is = ap Err (err-same one other is)
