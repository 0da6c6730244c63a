-- What stays sound when nodes are lost or change, and when nothing changes.
use Rattle.std.proofs.Common.{ℕ, zero, suc, ◌≡◌, ◌≤◌, Bool, true, false, ◌&&◌, ◌||◌, not, is_none, cond, List, [], ◌∷◌, map, get_or, All, None, refl, sym, ap, ◌∙◌, inl, inr, rules, tests}
use Rattle.std.specs.List.{Contains, list_any}
use Rattle.std.proofs.lemmas.Bool.{and_cases, and_left, and_right, both_ways, cases_Bool, cond-false, cond-true, cond_both, not-false, not-true, not_from_true, or_from, or_parts}
use Rattle.std.proofs.lemmas.List.Elements.{All-append, All-head, All-nil, All-tail, All-weaker, Contains-append_cases, Contains-append_left, Contains-append_right, filter_agree, filter_passes}
use Rattle.std.proofs.lemmas.List.Folds.{list_any-append, list_any_none}
use Rattle.request_data.specs.declared.request.NodeOrder.{NodeOrder}
use Rattle.request_data.specs.declared.request.NodeOrder.TheVariants as order
use Rattle.request_data.specs.declared.state.Final.{Final}
use Rattle.request_data.specs.declared.state.JobState.{JobState}
use Rattle.request_data.specs.declared.state.JobState.TheVariants.{Pending, Running, Completing, Ended}
use Rattle.node_state.specs.declared.record.DownBy.{DownBy}
use Rattle.node_state.specs.declared.record.DownBy.TheVariants as down
use Rattle.node_state.specs.declared.record.NodeRecord.{NodeRecord}
use Rattle.node_state.specs.declared.record.NodeChange.{NodeChange}
use Rattle.node_state.specs.Laws.{ConfsStay}
use Rattle.node_state.specs.Nodes.{changed as node_changed, is_up, resumed, set_down}
use Rattle.job_table.specs.declared.record.Part.{Part}
use Rattle.job_table.specs.declared.record.JobRecord.{JobRecord}
use Rattle.job_table.specs.declared.change.Change.TheVariants.{Leave}
use Rattle.job_table.specs.Changes.{end_of, with_left}
use Rattle.job_table.specs.JobStates.{is_holding, is_pending, is_running, left}
use Rattle.job_table.specs.Usage.{NothingCharged, charged}
use Rattle.ctl_state.specs.Events.{LetsGo, become}
use Rattle.ctl_state.specs.Holding.{has_members, parts_of}
use Rattle.ctl_state.specs.Laws.{Changing, ChangesLetGo, Charging, KeptLater, KeptOn, LetsGoNothing, LetsGoTwice, NodesHold}
use Rattle.ctl_state.specs.Planning.{is_at}
use Rattle.ctl_state.specs.Soundness.{AreUp, IsKept, IsSound, IsWellRun, PlansPending, is_up_at, pending_ids}
use Rattle.ctl_state.specs.State.{State, last_moment}
use Rattle.ctl_state.specs.Verdicts.{stamped}
use Rattle.ctl_nodes.specs.Failing.{after_loss, failed, failing, loses, lost_after, off_lost, parts_kept}
use Rattle.ctl_nodes.specs.Updating.{alters, change_by, changed_if, changes_any, is_among, is_lost_by, is_set_down, lost_by, update_after}
use Rattle.ctl_nodes.proofs.Lost.{after_parts, stays_of}

-- ---- lost nodes

-- the laws of letting go that a loss rests on
pub record Rests : Type 0 where
  pub changes : ChangesLetGo
  pub kept : KeptOn
  pub nothing : LetsGoNothing
  pub twice : LetsGoTwice

-- a completing job that holds nothing any more
settles : (now : ℕ) (final : Final) (job : JobRecord) → IsKept now job
    → (false ≡ is_holding (left final))
    × IsWellRun now (record job { parts = []; state = left final; ended = end_of now final job.ended })
settles now final job kept = search (rules, tests)

lets-left : (now : ℕ) (lost : ℕ → Bool) (final : Final) (job : JobRecord) (rest : List Part) → IsKept now job
    → job.state ≡ Completing final → rest ≡ parts_kept lost job.parts → LetsGo now job (with_left now final rest job)
lets-left now lost final job [] kept completing is =
    let settled = settles now final job kept in
    record {
      id = refl;
      array = refl;
      user = refl;
      assoc = refl;
      qos = refl;
      partition = refl;
      keep = λ part. not (lost part.node);
      parts = is;
      some = settled.0;
      terms = kept.terms;
      limit = kept.limit;
      run = settled.1;
    }
lets-left now lost final job (part ∷ later) kept completing is = record {
  id = refl;
  array = refl;
  user = refl;
  assoc = refl;
  qos = refl;
  partition = refl;
  keep = λ part. not (lost part.node);
  parts = is;
  some = rw completing refl;
  terms = kept.terms;
  limit = kept.limit;
  run = search rules;
}

-- who fails keeps his parts, and completes
failed-parts : (now : ℕ) (job : JobRecord) → (failed now job).parts ≡ job.parts
failed-parts now job = cond_both (is_running job.state) _ job (λ (one : JobRecord). one.parts ≡ job.parts)
    (λ h. refl) (λ h. refl)

failed-completes : (now : ℕ) (job : JobRecord) → job.state ≡ Running
    → (failed now job).state ≡ Completing (failing job)
failed-completes now job is = rw is refl

lets-off : Rests → (now : ℕ) (lost : ℕ → Bool) (job : JobRecord) (state : JobState) → job.state ≡ state
    → IsKept now job → LetsGo now job (off_lost now lost job state)
lets-off rests now lost job Pending is kept = rests.nothing now job kept
lets-off rests now lost job Running is kept =
    let middle = failed now job in
    let first = rests.changes now (Leave (failing job) now None) job refl kept in
    rests.twice now job middle (with_left now (failing job) (parts_kept lost job.parts) middle) first
    (lets-left now lost (failing job) middle (parts_kept lost job.parts) (rests.kept now job middle kept first)
    (failed-completes now job is) (ap (parts_kept lost) (sym (failed-parts now job))))
lets-off rests now lost job (Completing final) is kept =
    lets-left now lost final job (parts_kept lost job.parts) kept is refl
lets-off rests now lost job (Ended final) is kept = rests.nothing now job kept

lets-loss : Rests → (now : ℕ) (lost : ℕ → Bool) (job : JobRecord) → IsKept now job
    → LetsGo now job (after_loss now lost job)
lets-loss rests now lost job kept = cond_both (loses lost job) _ job (LetsGo now job)
    (λ h. lets-off rests now lost job job.state refl kept) (λ h. rests.nothing now job kept)

-- a job that waits stays as it is
waits-in : (now : ℕ) (lost : ℕ → Bool) (job : JobRecord) (state : JobState) → job.state ≡ state
    → is_pending state ≡ true → off_lost now lost job state ≡ job
waits-in now lost job Pending is waits = refl
waits-in now lost job Running is waits = absurd (both_ways false refl waits)
waits-in now lost job (Completing final) is waits = absurd (both_ways false refl waits)
waits-in now lost job (Ended final) is waits = absurd (both_ways false refl waits)

loss-waits : (now : ℕ) (lost : ℕ → Bool) (job : JobRecord) → is_pending job.state ≡ true
    → after_loss now lost job ≡ job
loss-waits now lost job waits = cond_both (loses lost job) _ job (λ one. one ≡ job)
    (λ h. waits-in now lost job job.state refl waits) (λ h. refl)

-- so who waits, waits on
waits-on : (change : JobRecord → JobRecord) (jobs : List JobRecord) (id : ℕ)
    → ((job : JobRecord) → is_pending job.state ≡ true → change job ≡ job)
    → Contains (pending_ids jobs) id → Contains (pending_ids (map change jobs)) id
waits-on change [] id same has = has
waits-on change (job ∷ jobs) id same has =
    let later = pending_ids (map change jobs) in
    let rest = waits-on change jobs id same in
    elim (cases_Bool (is_pending job.state)) [
      | inl waits ↦
          rw (same job waits, waits)
          (elim (Contains-append_cases (job.id ∷ []) (pending_ids jobs) id (rw waits at has)) [
            | inl first ↦ Contains-append_left (job.id ∷ []) later id first
            | inr other ↦ Contains-append_right (job.id ∷ []) later id (rest other)
          ])
      | inr other ↦
          let more = rest (rw other at has) in
          cond_both (is_pending (change job).state) _ _
          (λ (jobs : List JobRecord). Contains (map (λ (job : JobRecord). job.id) jobs) id)
          (λ h. Contains-append_right ((change job).id ∷ []) later id more) (λ h. more)
    ]

pub sound_lost : Changing → Charging → KeptLater → Rests → (s : State) (now : ℕ) (lost : ℕ → Bool)
    → IsSound s → s.moment ≤ now → now ≤ last_moment → IsSound (stamped now (lost_after s now lost))
sound_lost changing charging later rests s now lost sound raised in_time =
    let change = after_loss now lost in
    let plan : PlansPending (map change s.jobs) s.plan = record {
      pending = λ k d below. waits-on change s.jobs (get_or s.plan k d).id (loss-waits now lost)
          (sound.plan.pending k d below);
      once = sound.plan.once;
      last = sound.plan.last;
    } in
    let lets : All (λ job. LetsGo now job (change job)) s.jobs = λ k d below.
    lets-loss rests now lost (get_or s.jobs k d)
    (later s.moment now (get_or s.jobs k d) raised (sound.jobs k d below)) in
    charging (record s { jobs = map change s.jobs; moment = now }) now s.jobs (map change s.jobs)
    (changing s now change s.plan sound in_time lets plan)

-- nothing is held of lost nodes any more
abbrev IsFree : (ℕ → Bool) → Part → Type 0
IsFree lost part = lost part.node ≡ false

free-all : (now : ℕ) (lost : ℕ → Bool) (jobs : List JobRecord)
    → All (λ (job : JobRecord). has_members job.parts ≡ is_holding job.state) jobs
    → All (IsFree lost) (parts_of (map (after_loss now lost) jobs))
free-all now lost [] some = All-nil (IsFree lost)
free-all now lost (job ∷ jobs) some =
    let Some : JobRecord → Type 0 = λ job. has_members job.parts ≡ is_holding job.state in
    let keep : Part → Bool = λ part. not (lost part.node) in
    let left : All (IsFree lost) (parts_kept lost job.parts) =
    All-weaker (λ part. keep part ≡ true) (IsFree lost) (λ part is. not-true (lost part.node) is)
    (parts_kept lost job.parts) (filter_passes keep job.parts) in
    All-append (IsFree lost) (after_loss now lost job).parts (parts_of (map (after_loss now lost) jobs))
    (rw (after_parts now lost job (All-head Some job jobs some)) left)
    (free-all now lost jobs (All-tail Some job jobs some))

pub free_lost : (s : State) (now : ℕ) (lost : ℕ → Bool) → IsSound s
    → All (λ (part : Part). lost part.node ≡ false) (parts_of (map (after_loss now lost) s.jobs))
free_lost s now lost sound = free-all now lost s.jobs (λ k d below. (sound.jobs k d below).parts.some)

-- ---- the same nodes, told otherwise

any-alike : (lost other : ℕ → Bool) → ((place : ℕ) → lost place ≡ other place) → (parts : List Part)
    → list_any (λ (part : Part). lost part.node) parts ≡ list_any (λ (part : Part). other part.node) parts
any-alike lost other same [] = refl
any-alike lost other same (part ∷ parts) =
    let here = same part.node in
    let rest = any-alike lost other same parts in
    cc

off-alike : (now : ℕ) (lost other : ℕ → Bool) → ((place : ℕ) → lost place ≡ other place) → (job : JobRecord)
    (state : JobState)
    → off_lost now lost job state ≡ off_lost now other job state
off-alike now lost other same job Pending = refl
off-alike now lost other same job Running =
    ap (λ parts. with_left now (failing job) parts (failed now job))
    (filter_agree _ _ (λ (part : Part). ap not (same part.node)) job.parts)
off-alike now lost other same job (Completing final) =
    ap (λ parts. with_left now final parts job)
    (filter_agree _ _ (λ (part : Part). ap not (same part.node)) job.parts)
off-alike now lost other same job (Ended final) = refl

loss-alike : (now : ℕ) (lost other : ℕ → Bool) → ((place : ℕ) → lost place ≡ other place) → (job : JobRecord)
    → after_loss now lost job ≡ after_loss now other job
loss-alike now lost other same job =
    ap (λ (any : Bool). cond any (off_lost now lost job job.state) job) (any-alike lost other same job.parts)
    ∙ ap (λ (one : JobRecord). cond (loses other job) one job) (off-alike now lost other same job job.state)

jobs-alike : (now : ℕ) (lost other : ℕ → Bool) → ((place : ℕ) → lost place ≡ other place) → (jobs : List JobRecord)
    → map (after_loss now lost) jobs ≡ map (after_loss now other) jobs
jobs-alike now lost other same [] = refl
jobs-alike now lost other same (job ∷ jobs) =
    let here = loss-alike now lost other same job in
    let rest = jobs-alike now lost other same jobs in
    cc

pub lost_alike : (s : State) (now : ℕ) (lost other : ℕ → Bool) → ((place : ℕ) → lost place ≡ other place)
    → lost_after s now lost ≡ lost_after s now other
lost_alike s now lost other same = ap (λ jobs. become now jobs s) (jobs-alike now lost other same s.jobs)

-- ---- nodes that change

-- what slurm.conf says of a node stays
conf-stays : ConfsStay → (change : NodeChange) (node : NodeRecord) → (node_changed change node).conf ≡ node.conf
conf-stays confs change node = let one = confs zero change (node ∷ []) in cc

confs-stay : ConfsStay → (change : NodeChange) (names : List (List ℕ)) (nodes : List NodeRecord)
    → map (λ (node : NodeRecord). node.conf) (map (changed_if change names) nodes)
    ≡ map (λ (node : NodeRecord). node.conf) nodes
confs-stay confs change names [] = refl
confs-stay confs change names (node ∷ nodes) =
    let here : (changed_if change names node).conf ≡ node.conf =
    cond_both (is_among names node) _ node (λ (one : NodeRecord). one.conf ≡ node.conf)
    (λ h. conf-stays confs change node) (λ h. refl) in
    let rest = confs-stay confs change names nodes in
    cc

-- a node that is up and isn't lost stays up
up-resumed : (node : NodeRecord) (by : DownBy) → node.down ≡ by → is_up node.down ≡ true
    → is_up (resumed node by).down ≡ true
up-resumed node down.No is up = up
up-resumed node down.Silent is up = up
up-resumed node down.Set is up = absurd (both_ways false refl (rw is at up))

up-ordered : (state : NodeOrder) (names : List (List ℕ)) (node : NodeRecord) → is_up node.down ≡ true
    → (is_lost_by state && is_among names node) ≡ false
    → is_up (changed_if (change_by state) names node).down ≡ true
up-ordered order.Down names node up free =
    rw (cond-false (is_among names node) (node_changed (change_by order.Down) node) node free) up
up-ordered order.Drain names node up free =
    cond_both (is_among names node) _ node (λ (one : NodeRecord). is_up one.down ≡ true) (λ h. up) (λ h. up)
up-ordered order.Resume names node up free =
    cond_both (is_among names node) _ node (λ (one : NodeRecord). is_up one.down ≡ true)
    (λ h. up-resumed node node.down refl up) (λ h. up)

up-at : (state : NodeOrder) (names : List (List ℕ)) (nodes : List NodeRecord) (place : ℕ)
    → is_up_at nodes place ≡ true → lost_by nodes names state place ≡ false
    → is_up_at (map (changed_if (change_by state) names) nodes) place ≡ true
up-at state names [] place up free = up
up-at state names (node ∷ nodes) zero up free = up-ordered state names node up free
up-at state names (node ∷ nodes) (suc place) up free = up-at state names nodes place up free

-- the loss of nodes keeps all sound
abbrev pub LosingKeeps : Type 0
LosingKeeps = (s : State) (now : ℕ) (lost : ℕ → Bool) → IsSound s → s.moment ≤ now → now ≤ last_moment
    → IsSound (stamped now (lost_after s now lost))

abbrev pub LosingFrees : Type 0
LosingFrees = (s : State) (now : ℕ) (lost : ℕ → Bool) → IsSound s
    → All (λ (part : Part). lost part.node ≡ false) (parts_of (map (after_loss now lost) s.jobs))

pub sound_updated : LosingKeeps → LosingFrees → NodesHold → ConfsStay → (s : State) (now : ℕ)
    (names : List (List ℕ)) (state : NodeOrder)
    → IsSound s → s.moment ≤ now → now ≤ last_moment → IsSound (stamped now (update_after s now names state))
sound_updated keeps frees hold confs s now names state sound raised in_time =
    let lost = lost_by s.nodes names state in
    let nodes = map (changed_if (change_by state) names) s.nodes in
    let parts = parts_of (map (after_loss now lost) s.jobs) in
    let after = keeps s now lost sound raised in_time in
    let up : AreUp nodes parts = λ k d below.
    up-at state names s.nodes (get_or parts k d).node (after.up k d below) (frees s now lost sound k d below) in
    hold (stamped now (lost_after s now lost)) nodes after (confs-stay confs (change_by state) names s.nodes) up

-- ---- where nothing changes

unset-stays : (node : NodeRecord) (by : DownBy) → node.down ≡ by → not (is_set_down by) ≡ false
    → set_down node by ≡ node
unset-stays node down.No is set = absurd (both_ways true set refl)
unset-stays node down.Silent is set = absurd (both_ways true set refl)
unset-stays node down.Set is set = refl

unresumed : (node : NodeRecord) (by : DownBy) → node.down ≡ by → (is_set_down by || node.drain) ≡ false
    → resumed node by ≡ node
unresumed node down.No is idle = ap (λ drain. record node { drain = drain }) (sym idle)
unresumed node down.Silent is idle = ap (λ drain. record node { drain = drain }) (sym idle)
unresumed node down.Set is idle = absurd (both_ways true idle refl)

unaltered : (state : NodeOrder) (node : NodeRecord) → alters state node ≡ false
    → node_changed (change_by state) node ≡ node
unaltered order.Down node idle = unset-stays node node.down refl idle
unaltered order.Drain node idle =
    ap (λ drain. record node { drain = drain }) (sym (not-false node.drain idle))
unaltered order.Resume node idle = unresumed node node.down refl idle

-- the order makes another one of the node, which it names
abbrev turns : NodeOrder → List (List ℕ) → NodeRecord → Bool
turns state names node = is_among names node && alters state node

node-stays : (state : NodeOrder) (names : List (List ℕ)) (node : NodeRecord) → turns state names node ≡ false
    → changed_if (change_by state) names node ≡ node
node-stays state names node idle = elim (and_cases (is_among names node) (alters state node) idle) [
  | inl other ↦ cond-false (is_among names node) (node_changed (change_by state) node) node other
  | inr same ↦ cond_both (is_among names node) _ node (λ one. one ≡ node) (λ h. unaltered state node same) (λ h. refl)
]

nodes-stay : (state : NodeOrder) (names : List (List ℕ)) (nodes : List NodeRecord)
    → list_any (turns state names) nodes ≡ false → map (changed_if (change_by state) names) nodes ≡ nodes
nodes-stay state names [] idle = refl
nodes-stay state names (node ∷ nodes) idle =
    let each = or_parts (turns state names node) (list_any (turns state names) nodes) idle in
    let here = node-stays state names node each.0 in
    let rest = nodes-stay state names nodes each.1 in
    cc

-- a node that is up and stays as it is isn't lost
up-unset : (by : DownBy) → is_up by ≡ true → not (is_set_down by) ≡ false → ⊥
up-unset down.No up set = both_ways true set refl
up-unset down.Silent up set = both_ways false refl up
up-unset down.Set up set = both_ways false refl up

not-lost : (state : NodeOrder) (names : List (List ℕ)) (nodes : List NodeRecord) (place : ℕ)
    → list_any (turns state names) nodes ≡ false → is_up_at nodes place ≡ true
    → lost_by nodes names state place ≡ false
not-lost order.Drain names nodes place idle up = refl
not-lost order.Resume names nodes place idle up = refl
not-lost order.Down names [] place idle up = refl
not-lost order.Down names (node ∷ nodes) zero idle up =
    let each = or_parts (turns order.Down names node) (list_any (turns order.Down names) nodes) idle in
    elim (and_cases (is_among names node) (alters order.Down node) each.0) [
      | inl other ↦ other
      | inr same ↦ absurd (up-unset node.down up same)
    ]
not-lost order.Down names (node ∷ nodes) (suc place) idle up =
    not-lost order.Down names nodes place
    (or_parts (turns order.Down names node) (list_any (turns order.Down names) nodes) idle).1 up

-- jobs that lose nothing stay
pub jobs_stay : (now : ℕ) (lost : ℕ → Bool) (jobs : List JobRecord)
    → list_any (λ (part : Part). lost part.node) (parts_of jobs) ≡ false → map (after_loss now lost) jobs ≡ jobs
jobs_stay now lost [] none = refl
jobs_stay now lost (job ∷ jobs) none =
    let is : Part → Bool = λ part. lost part.node in
    let each = or_parts (list_any is job.parts) (list_any is (parts_of jobs))
    (sym (list_any-append is job.parts (parts_of jobs)) ∙ none) in
    let here = stays_of now lost job each.0 in
    let rest = jobs_stay now lost jobs each.1 in
    cc

-- and nobody is charged
pub nothing_lost : NothingCharged → (s : State) (now : ℕ) (lost : ℕ → Bool)
    → list_any (λ (part : Part). lost part.node) (parts_of s.jobs) ≡ false → lost_after s now lost ≡ s
nothing_lost nothing s now lost none =
    let usage : charged now s.jobs s.jobs s.usage ≡ s.usage =
    sym (nothing now (record { records = s.jobs; usage = s.usage })).usage in
    ap (λ jobs. become now jobs s) (jobs_stay now lost s.jobs none) ∙ ap (λ usage. record s { usage = usage }) usage

-- an order that sets no node down loses none
pub lost_by_none : NothingCharged → (s : State) (now : ℕ) (names : List (List ℕ)) (state : NodeOrder)
    → is_lost_by state ≡ false → lost_after s now (lost_by s.nodes names state) ≡ s
lost_by_none nothing s now names state none =
    nothing_lost nothing s now (lost_by s.nodes names state)
    (list_any_none (λ (part : Part). lost_by s.nodes names state part.node) (parts_of s.jobs)
    (λ k d below. and_left (is_lost_by state)
    (is_at (is_among names) s.nodes (get_or (parts_of s.jobs) k d).node) none))

pub idle : NothingCharged → (s : State) (now : ℕ) (names : List (List ℕ)) (state : NodeOrder) → IsSound s
    → changes_any s names state ≡ false → update_after s now names state ≡ s
idle nothing s now names state sound none =
    let lost = lost_by s.nodes names state in
    let nodes = map (changed_if (change_by state) names) s.nodes in
    let free : list_any (λ (part : Part). lost part.node) (parts_of s.jobs) ≡ false =
    list_any_none (λ (part : Part). lost part.node) (parts_of s.jobs)
    (λ k d below. not-lost state names s.nodes (get_or (parts_of s.jobs) k d).node none (sound.up k d below)) in
    ap (λ (after : State). record after { nodes = nodes }) (nothing_lost nothing s now lost free)
    ∙ ap (λ nodes. record s { nodes = nodes }) (nodes-stay state names s.nodes none)

-- and where a node becomes another one, the state does
set-unlike : (node : NodeRecord) (by : DownBy) → node.down ≡ by → set_down node by ≡ node
    → not (is_set_down by) ≡ false
set-unlike node down.No is same =
    absurd (let never : down.Set ≡ down.No = ap (λ (one : NodeRecord). one.down) same ∙ is in cc)
set-unlike node down.Silent is same =
    absurd (let never : down.Set ≡ down.Silent = ap (λ (one : NodeRecord). one.down) same ∙ is in cc)
set-unlike node down.Set is same = refl

after-set : (heard : Bool) → cond heard down.No down.Silent ≡ down.Set → ⊥
after-set true is = let never = is in cc
after-set false is = let never = is in cc

resumed-unlike : (node : NodeRecord) (by : DownBy) → node.down ≡ by → resumed node by ≡ node
    → (is_set_down by || node.drain) ≡ false
resumed-unlike node down.No is same = sym (ap (λ (one : NodeRecord). one.drain) same)
resumed-unlike node down.Silent is same = sym (ap (λ (one : NodeRecord). one.drain) same)
resumed-unlike node down.Set is same =
    absurd (after-set (is_none node.heard || node.empty) (ap (λ (one : NodeRecord). one.down) same ∙ is))

unlike : (state : NodeOrder) (node : NodeRecord) → node_changed (change_by state) node ≡ node
    → alters state node ≡ false
unlike order.Down node same = set-unlike node node.down refl same
unlike order.Drain node same =
    not_from_true node.drain (sym (ap (λ (one : NodeRecord). one.drain) same))
unlike order.Resume node same = resumed-unlike node node.down refl same

none-turns : (state : NodeOrder) (names : List (List ℕ)) (nodes : List NodeRecord)
    → map (changed_if (change_by state) names) nodes ≡ nodes → list_any (turns state names) nodes ≡ false
none-turns state names [] same = refl
none-turns state names (node ∷ nodes) same =
    let change : NodeRecord → NodeRecord = changed_if (change_by state) names in
    let here : change node ≡ node = cc in
    let rest : map change nodes ≡ nodes = cc in
    let stays : turns state names node ≡ false = elim (cases_Bool (is_among names node)) [
      | inl named ↦
          and_right (is_among names node) (alters state node)
          (unlike state node (sym (cond-true (is_among names node) (node_changed (change_by state) node) node named)
          ∙ here))
      | inr other ↦ and_left (is_among names node) (alters state node) other
    ] in
    or_from (turns state names node) (list_any (turns state names) nodes) stays (none-turns state names nodes rest)

pub only : (s : State) (now : ℕ) (names : List (List ℕ)) (state : NodeOrder) → update_after s now names state ≡ s
    → changes_any s names state ≡ false
only s now names state same = none-turns state names s.nodes (ap (λ (state : State). state.nodes) same)
