-- What is kept of a job, as time passes and whatever change but a start happens to it.
use Rattle.std.proofs.Common.{◌≡◌, ◌≢◌, ℕ, ◌≤◌, true, false, ◌&&◌, not, List, [], ◌∷◌, Some, Bool, filter, refl, sym, ◌∙◌, arith, rules, tests}
use Rattle.std.proofs.lemmas.Bool.{cond_both}
use Rattle.std.proofs.lemmas.Bool.Decides.{nat_tests}
use Rattle.std.proofs.lemmas.List.Kept.{AllPairs-filter}
use Rattle.request_data.specs.declared.state.JobState.{JobState}
use Rattle.request_data.specs.declared.state.JobState.TheVariants.{Pending, Running, Completing, Ended}
use Rattle.request_data.specs.declared.state.Final.{Final}
use Rattle.request_data.specs.declared.state.Final.TheVariants.{Cancelled, Requeue}
use Rattle.job_table.specs.declared.record.Part.{Part}
use Rattle.job_table.specs.declared.record.JobRecord.{JobRecord}
use Rattle.job_table.specs.declared.change.Change.{Change}
use Rattle.job_table.specs.declared.change.Change.TheVariants.{Start, Leave, CancelPending, CancelRequeue, DropPart, SetHold, SetLimit, SetNice}
use Rattle.job_table.specs.JobStates.{is_pending, is_running, is_holding, left}
use Rattle.job_table.specs.Changes.{changed, end_of, is_on, not_again, off_node, parts_off, with_left}
use Rattle.ctl_state.specs.Holding.{OnNodesApart, has_members}
use Rattle.ctl_state.specs.Soundness.{IsKept, IsWellRun}
use Rattle.ctl_state.specs.Events.{FitsChange, LetsGo}
use Rattle.ctl_state.proofs.Lists.{filter-filter}
use Rattle.list_lemmas.proofs.Filters.{filter-all}

pub kept-later : (before now : ℕ) (job : JobRecord) → before ≤ now → IsKept before job → IsKept now job
kept-later before now job later kept = search (rules, arith)

pub kept-let_go : (before now : ℕ) (job after : JobRecord) → IsKept before job → LetsGo now job after → IsKept now after
kept-let_go before now job after kept lets =
    let apart : OnNodesApart after.parts = rw lets.parts (AllPairs-filter (λ (one other : Part). one.node ≢ other.node) lets.keep job.parts kept.parts.apart) in
    search rules

-- where all parts stay, where those that one keeps and then another do, and where those that aren't on a node do
all-stay : (now : ℕ) (job after : JobRecord) → after.id ≡ job.id → after.array ≡ job.array
    → after.user ≡ job.user → after.assoc ≡ job.assoc → after.qos ≡ job.qos
    → after.partition ≡ job.partition → after.parts ≡ job.parts
    → IsKept now after → LetsGo now job after
all-stay now job after same task whose by with of held kept =
    let keep : Part → Bool = λ part. true in
    let parts : after.parts ≡ filter keep job.parts = held ∙ sym (filter-all job.parts) in
    record {
      id = same;
      array = task;
      user = whose;
      assoc = by;
      qos = with;
      partition = of;
      keep = keep;
      parts = parts;
      some = kept.parts.some;
      terms = kept.terms;
      limit = kept.limit;
      run = kept.run;
    }

pub lets_go-same : (now : ℕ) (job : JobRecord) → IsKept now job → LetsGo now job job
lets_go-same now job kept = all-stay now job job refl refl refl refl refl refl refl kept

pub lets_go-twice : (now : ℕ) (job middle after : JobRecord) → LetsGo now job middle → LetsGo now middle after → LetsGo now job after
lets_go-twice now job middle after one two =
    let keep : Part → Bool = λ part. one.keep part && two.keep part in
    let parts : after.parts ≡ filter keep job.parts = rw (two.parts, one.parts) (filter-filter one.keep two.keep job.parts) in
    record {
      id = two.id ∙ one.id;
      array = two.array ∙ one.array;
      user = two.user ∙ one.user;
      assoc = two.assoc ∙ one.assoc;
      qos = two.qos ∙ one.qos;
      partition = two.partition ∙ one.partition;
      keep = keep;
      parts = parts;
      some = two.some;
      terms = two.terms;
      limit = two.limit;
      run = two.run;
    }

-- a completing job that holds nothing any more
settles : (now : ℕ) (final : Final) (job : JobRecord) → IsKept now job
    → (false ≡ is_holding (left final)) × IsWellRun now (record job { parts = []; state = left final; ended = end_of now final job.ended })
settles now final job kept = search (rules, tests)

leaves-node : (now node : ℕ) (final : Final) (job : JobRecord) (rest : List Part) → IsKept now job → job.state ≡ Completing final
    → rest ≡ parts_off node job.parts → LetsGo now job (with_left now final rest job)
leaves-node now node final job [] kept completing off =
    let settled = settles now final job kept in
    record {
      id = refl;
      array = refl;
      user = refl;
      assoc = refl;
      qos = refl;
      partition = refl;
      keep = λ part. not (is_on node part);
      parts = off;
      some = settled.0;
      terms = kept.terms;
      limit = kept.limit;
      run = settled.1;
    }
leaves-node now node final job (part ∷ later) kept completing off =
    record {
      id = refl;
      array = refl;
      user = refl;
      assoc = refl;
      qos = refl;
      partition = refl;
      keep = λ part. not (is_on node part);
      parts = off;
      some = rw completing refl;
      terms = kept.terms;
      limit = kept.limit;
      run = search rules;
    }

off_node-lets_go : (now node : ℕ) (state : JobState) (job : JobRecord) → IsKept now job → job.state ≡ state → LetsGo now job (off_node now node job state)
off_node-lets_go now node Pending job kept is = lets_go-same now job kept
off_node-lets_go now node Running job kept is = lets_go-same now job kept
off_node-lets_go now node (Completing final) job kept is = leaves-node now node final job (parts_off node job.parts) kept is refl
off_node-lets_go now node (Ended final) job kept is = lets_go-same now job kept

-- one that was to start again, and is cancelled, completes as it did
cancelled-again : (now : ℕ) (job : JobRecord) → IsKept now job → job.state ≡ Completing Requeue
    → LetsGo now job (record job { state = Completing Cancelled })
cancelled-again now job kept is =
    all-stay now job (record job { state = Completing Cancelled }) refl refl refl refl refl refl refl (search (rules, tests))

not_again-lets_go : (now : ℕ) (state : JobState) (job : JobRecord) → IsKept now job → job.state ≡ state
    → LetsGo now job (not_again job state)
not_again-lets_go now Pending job kept is = lets_go-same now job kept
not_again-lets_go now Running job kept is = lets_go-same now job kept
not_again-lets_go now (Completing Requeue) job kept is = cancelled-again now job kept is
not_again-lets_go now (Completing final) job kept is = lets_go-same now job kept
not_again-lets_go now (Ended final) job kept is = lets_go-same now job kept

pub changed-lets_go : (now : ℕ) (change : Change) (job : JobRecord) → FitsChange now change → IsKept now job
    → LetsGo now job (changed change job)
changed-lets_go now (Start moment parts nodes) job never kept = absurd never
changed-lets_go now (Leave final moment exit) job at kept =
    let after : JobRecord = record job { state = Completing final; ended = Some now; exit = exit } in
    rw at (cond_both (is_running job.state) after job (LetsGo now job)
    (λ runs. all-stay now job after refl refl refl refl refl refl refl (search (rules, tests)))
    (λ idle. lets_go-same now job kept))
changed-lets_go now (CancelPending moment) job at kept =
    let after : JobRecord = record job { state = Ended Cancelled; ended = Some now } in
    rw at (cond_both (is_pending job.state) after job (LetsGo now job)
    (λ waits. all-stay now job after refl refl refl refl refl refl refl (search (rules, tests)))
    (λ other. lets_go-same now job kept))
changed-lets_go now CancelRequeue job fits kept = not_again-lets_go now job.state job kept refl
changed-lets_go now (DropPart node moment) job at kept = rw at (off_node-lets_go now node job.state job kept refl)
changed-lets_go now (SetHold by) job fits kept =
    all-stay now job (record job { held_by = by }) refl refl refl refl refl refl refl (search rules)
changed-lets_go now (SetLimit limit) job fits kept =
    all-stay now job (record job { limit = limit }) refl refl refl refl refl refl refl (search rules)
changed-lets_go now (SetNice nice) job fits kept =
    all-stay now job (record job { nice = nice }) refl refl refl refl refl refl refl (search rules)

pub kept-started : (now : ℕ) (parts : List Part) (names : List (List ℕ)) (job : JobRecord) → has_members parts ≡ true
    → OnNodesApart parts → IsKept now job
    → IsKept now (changed (Start now parts names) job)
kept-started now parts names job some apart kept = search (rules, tests)

-- a waiting job holds nothing
pub pending-nothing : (now : ℕ) (job : JobRecord) → IsKept now job → is_pending job.state ≡ true → job.parts ≡ []
pending-nothing now job kept pending = let some = kept.parts.some in grind (arith, nat_tests)
