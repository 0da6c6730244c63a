-- An accepted submission keeps all sound, and makes another state.
use Rattle.std.proofs.Common.{◌≡◌, ◌≢◌, ℕ, ◌+◌, ◌<◌, ◌≤◌, ◌∙◌, true, List, [], ◌∷◌, ◌++◌, length, max, Option, Some, None, refl, ap, subst, arith, rules, tests, length-append}
use Rattle.std.specs.Prelude.{IfSome, is_none, option_and_then, option_map, slice_get, unwrap_or}
use Rattle.std.specs.Option.{option_or}
use Rattle.std.proofs.lemmas.Option.{slice_get_within}
use Rattle.plain_data.specs.declared.array.ArraySpec.{ArraySpec}
use Rattle.plain_data.specs.declared.job.JobDesc.{JobDesc}
use Rattle.plain_data.specs.declared.limit.Limit.{Limit}
use Rattle.reply_data.specs.declared.refusal.Refusal.TheVariants.{InvalidAccount, InvalidPartition, InvalidQos, PartitionClosed}
use Rattle.reply_data.specs.declared.reply.Reply.{Reply}
use Rattle.node_state.specs.declared.partition_record.PartRecord.{PartRecord}
use Rattle.run_limits.specs.Accounts.{is_of_user}
use Rattle.job_table.specs.declared.record.JobRecord.{JobRecord}
use Rattle.job_table.specs.JobStates.{is_pending}
use Rattle.ctl_state.specs.declared.record.ArrayRecord.{ArrayRecord}
use Rattle.ctl_state.specs.State.{State, last_moment}
use Rattle.ctl_state.specs.Laws.{Adding}
use Rattle.ctl_state.specs.Refusals.{first_refusal, refused_if}
use Rattle.ctl_state.specs.Soundness.{HasLimits, IsOfAccounts, IsAsked, IsKept, IsLimit, IsSound}
use Rattle.ctl_state.specs.Verdicts.{Makes, stamped}
use Rattle.ctl_jobs.specs.Submission.{Basis, account_at, is_closed, made_under, new_arrays, new_job, new_jobs, refusals_by, refusals_under, submit_after, takes_none, basis_by}
use Rattle.ctl_jobs.proofs.Deciding.{All-at, can-add}
use Rattle.ctl_jobs.proofs.Refused.{none-first}
use Rattle.ctl_jobs.proofs.Made.{All-new_jobs, AllPairs-new_jobs, length-new_jobs}

-- the limit in force is in its range
limit-in : (asked unasked : Option Limit) (longest : Limit) → IfSome asked IsLimit → IfSome unasked IsLimit
    → IsLimit longest → IsLimit (unwrap_or (option_or asked unasked) longest)
limit-in None None longest range left most = most
limit-in None (Some limit) longest range left most = left
limit-in (Some limit) unasked longest range left most = range

-- a job that a submission makes in a partition that there is
kept-new_job : (s : State) (moment : ℕ) (user : List ℕ) (desc : JobDesc) (basis : Basis) (id : ℕ) (of : Option ℕ)
    (own : Option ℕ) → moment ≤ last_moment → HasLimits basis.partition → IsAsked desc
    → IfSome desc.limit IsLimit
    → IsKept moment (new_job s moment user desc basis id of own)
kept-new_job s moment user desc basis id of own in_time limits asked range =
    let conf = basis.partition.conf in
    let early : max moment (unwrap_or desc.begin 0) ≤ last_moment = omega (arith, in_time, asked.begin) in
    record {
      terms = record {
        tasks = asked.tasks;
        cpus = asked.cpus;
        run = asked.run;
        exit = asked.exit;
        begin = asked.begin;
      };
      limit = limit-in desc.limit conf.default_time conf.max_time range limits.unasked limits.longest;
      run = search (rules, tests);
      parts = record { some = refl; apart = λ i j d before within. absurd (omega (arith, within)) };
    }

array-is : (of : Option ℕ) (id next : ℕ) → next ≤ id → IfSome of (λ first. first ≡ next)
    → IfSome of (λ array. array ≤ id)
array-is None id next least first = tt
array-is (Some array) id next least first = omega (arith, least, first)

array-from : (of : Option ℕ) (next : ℕ) → IfSome of (λ first. first ≡ next) → IfSome of (λ array. next ≤ array)
array-from None next first = tt
array-from (Some array) next first = omega (arith, first)

-- a submission that isn't refused, under its basis
submitted : Adding → (s : State) (now : ℕ) (user : List ℕ) (desc : JobDesc) (basis : Basis) → IsSound s → s.moment ≤ now
    → now ≤ last_moment → IsAsked desc → IfSome desc.limit IsLimit
    → option_map (is_of_user user) (slice_get s.assocs basis.assoc) ≡ Some true → basis.qos < length s.qos
    → slice_get s.partitions basis.place ≡ Some basis.partition
    → first_refusal (refusals_under s now user desc basis) ≡ None
    → IsSound (stamped now (submit_after s (new_jobs s now user desc basis desc.array) (new_arrays s desc.array)))
submitted adding s now user desc basis sound later in_time asked range his good there none =
    let limits = All-at HasLimits s.partitions basis.place basis.partition sound.limits there in
    let within = slice_get_within s.partitions basis.place basis.partition there in
    let added = can-add s now user desc basis none in
    let count = length-new_jobs s now user desc basis desc.array in
    let next : ℕ = s.next_id + length (new_jobs s now user desc basis desc.array) in
    adding s now next (new_jobs s now user desc basis desc.array) _ sound later in_time
    (All-new_jobs (λ (job : JobRecord). job.partition < length s.partitions) s now user desc basis desc.array
    (λ id of own least below first. within))
    (All-new_jobs (IsOfAccounts s.assocs s.qos) s now user desc basis desc.array
    (λ id of own least below first. record { assoc = his; qos = good }))
    (All-new_jobs (IsKept now) s now user desc basis desc.array
    (λ id of own least below first. kept-new_job s now user desc basis id of own in_time limits asked range))
    (All-new_jobs (λ (job : JobRecord). is_pending job.state ≡ true) s now user desc basis desc.array
    (λ id of own least below first. refl))
    added.rising added.above
    (All-new_jobs (λ (job : JobRecord). job.id + 1 ≤ next) s now user desc basis desc.array
    (λ id of own least below first. omega (arith, below, count)))
    (omega arith) added.numbers
    (record {
      after = All-new_jobs (λ (job : JobRecord). IfSome job.array (λ array. array ≤ job.id)) s now user desc basis
          desc.array (λ id of own least below first. array-is of id s.next_id least first);
      together = AllPairs-new_jobs
          (λ (one other : JobRecord). IfSome other.array (λ array. array ≤ one.id → one.array ≡ Some array))
          s now user desc basis desc.array (λ one other own others before at_most. refl);
    })
    (All-new_jobs (λ (job : JobRecord). IfSome job.array (λ array. s.next_id ≤ array)) s now user desc basis desc.array
    (λ id of own least below first. array-from of s.next_id first))

-- the state that is made
made-after : {reply other : Reply} {after left : State} → Makes reply after ≡ Makes other left → after ≡ left
made-after {reply} {other} {after} {left} same = cc

-- An accepted submission keeps all sound.
pub sound-made : Adding → (s after : State) (now : ℕ) (user : List ℕ) (desc : JobDesc) (reply : Reply)
    (assoc qos place : Option ℕ) (partition : Option PartRecord) → IsSound s → s.moment ≤ now
    → now ≤ last_moment → IsAsked desc → IfSome desc.limit IsLimit
    → IfSome assoc (λ by. option_map (is_of_user user) (slice_get s.assocs by) ≡ Some true)
    → IfSome qos (λ of. of < length s.qos)
    → option_and_then (slice_get s.partitions) place ≡ partition
    → first_refusal (refused_if (is_none assoc) InvalidAccount
    ∷ refused_if (is_none partition) InvalidPartition ∷ refused_if (takes_none partition) PartitionClosed
    ∷ refused_if (is_none qos) InvalidQos ∷ refusals_by s now user desc (basis_by s assoc qos place partition))
    ≡ None
    → made_under s now user desc (basis_by s assoc qos place partition) ≡ Makes reply after
    → IsSound (stamped now after)
sound-made adding s after now user desc reply None qos place its sound later in_time asked range his good there none
    made = absurd (cc)
sound-made adding s after now user desc reply (Some by) None place its sound later in_time asked range his good there
    none made = absurd (cc)
sound-made adding s after now user desc reply (Some by) (Some of) None its sound later in_time asked range his good
    there none made = absurd (cc)
sound-made adding s after now user desc reply (Some by) (Some of) (Some place) None sound later in_time asked range his
    good there none made = absurd (cc)
sound-made adding s after now user desc reply (Some by) (Some of) (Some place) (Some its) sound later in_time asked
    range his good there none made =
    let basis : Basis = record {
      account = account_at s.assocs by;
      assoc = by;
      qos = of;
      place = place;
      partition = its;
    } in
    let closed = none-first PartitionClosed (is_closed its.state) _ none in
    subst (λ (left : State). IsSound (stamped now left)) (made-after made)
    (submitted adding s now user desc basis sound later in_time asked range his good there closed.1)

-- one member more is another list
more-arrays : (arrays : List ArrayRecord) (array : ArrayRecord) → arrays ++ array ∷ [] ≢ arrays
more-arrays arrays array same =
    omega (arith, ap (λ (all : List ArrayRecord). length all) same, length-append arrays (array ∷ []))

changed : (s : State) (now : ℕ) (user : List ℕ) (desc : JobDesc) (basis : Basis) (array : Option ArraySpec)
    → submit_after s (new_jobs s now user desc basis array) (new_arrays s array) ≢ s
changed s now user desc basis None same =
    omega (arith, ap (λ (t : State). t.next_id) same, length-new_jobs s now user desc basis None)
changed s now user desc basis (Some array) same =
    more-arrays s.arrays (record { id = s.next_id; indices = array.indices }) (ap (λ (t : State). t.arrays) same)

-- An accepted submission makes another state.
pub changed-made : (s after : State) (now : ℕ) (user : List ℕ) (desc : JobDesc) (reply : Reply) (by : Option Basis)
    → made_under s now user desc by ≡ Makes reply after → after ≢ s
changed-made s after now user desc reply None made same = absurd (cc)
changed-made s after now user desc reply (Some basis) made same =
    changed s now user desc basis desc.array (made-after made ∙ same)
