-- What users ask, and a pass, leave each node's side alone.
use Rattle.std.proofs.Common.{ℕ, ◌≡◌, ◌≤◌, ◌∙◌, Bool, true, false, ◌&&◌, not, List, [], ◌∷◌, map, Any, Option, Some, None, refl, sym, ap, arith, inl}
use Rattle.std.specs.List.{list_any}
use Rattle.std.proofs.lemmas.Bool.{both_ways, cond_both, not_from_false}
use Rattle.plain_data.specs.declared.limit.Limit.{Limit}
use Rattle.plain_data.specs.declared.nice.Nice.{Nice}
use Rattle.request_data.specs.declared.request.NodeOrder.{NodeOrder}
use Rattle.request_data.specs.declared.request.NodeOrder.TheVariants as order
use Rattle.request_data.specs.declared.request.Request.{Request}
use Rattle.request_data.specs.declared.state.Final.TheVariants as final
use Rattle.request_data.specs.declared.state.JobState.{JobState}
use Rattle.request_data.specs.declared.state.JobState.TheVariants.{Pending, Running, Completing, Ended}
use Rattle.node_state.specs.declared.record.NodeChange.TheVariants as change
use Rattle.node_state.specs.declared.record.NodeRecord.{NodeRecord}
use Rattle.node_state.specs.Laws.{PlacesAreNamed}
use Rattle.node_state.specs.Nodes.{place_named}
use Rattle.job_table.specs.declared.record.JobRecord.{JobRecord}
use Rattle.job_table.specs.declared.record.Part.{Part}
use Rattle.job_table.specs.declared.change.Change.TheVariants.{Leave}
use Rattle.job_table.specs.Changes.{changed}
use Rattle.job_table.specs.JobStates.{is_ended, is_holding, is_pending, is_running}
use Rattle.job_table.specs.Table.{has_id}
use Rattle.ctl_state.specs.Holding.{has_members}
use Rattle.ctl_state.specs.Planning.{is_at}
use Rattle.ctl_state.specs.Soundness.{IsKept, IsSound, is_up_at}
use Rattle.ctl_state.specs.State.{State, last_moment}
use Rattle.ctl_jobs.specs.declared.action.Action.{Action}
use Rattle.ctl_jobs.specs.declared.action.Action.TheVariants as act
use Rattle.ctl_jobs.specs.Actions.{cancelled_in, done_to, with_limit, with_nice}
use Rattle.ctl_jobs.specs.Changing.{change_after, done_if, may_do}
use Rattle.ctl_nodes.specs.Changing.{changed_where}
use Rattle.ctl_nodes.specs.Failing.{after_loss}
use Rattle.ctl_nodes.specs.Updating.{is_among, lost_by, update_after}
use Rattle.ctl_pass.specs.Limits.{is_over, timed_out}
use Rattle.ctl_pass.specs.Passing.{outcome, pass_after}
use Rattle.ctl_pass.specs.Preempting.{preempted, victims_in}
use Rattle.ctl_pass.specs.Readiness.{goes as gone, jobs_left, placements, ready}
use Rattle.ctl_node_side.specs.Reporting.{heard_of}
use Rattle.ctl_node_side.specs.Passes.{after_pass}
use Rattle.ctl_node_side.specs.Silence.{any_silent, falls_silent, silent_at, silenced, without_silent}
use Rattle.ctl_jobs.specs.Submission.{new_jobs}
use Rattle.ctl_core.specs.Sizes.{size_of}
use Rattle.ctl_core.specs.Step.{entered, raised, state_after}
use Rattle.step_lemmas.proofs.Making.{ByAction, ByPass, ByReconfigure, ByReport, BySubmit, ByUpdateNode, MayMake}
use Rattle.step_lemmas.proofs.Steps.{step_is}
use Rattle.daemon_world.specs.Claims.{Claim, Holds, IsClaimed, IsHeldAt}
use Rattle.daemon_world.specs.Leaving.{LeavesNode}
use Rattle.daemon_world.specs.Together.{IsNoneGone, is_emptied}
use Rattle.daemon_world.specs.Worlds.{IsNoReport}
use Rattle.daemon_world.proofs.Altering.{keeps_down, keeps_drain, keeps_resume, keeps_silent, nodes_left}
use Rattle.daemon_world.proofs.Holding.{IsAlike, again_alike, alike_holds, alike_on, cancel_alike, itself, leave_alike, loss_holds}
use Rattle.daemon_world.proofs.LeftAlone.{leaves_on, left_same, placed}
use Rattle.daemon_world.proofs.Lists.{any_filter, any_left, any_map, any_none}
use Rattle.daemon_world.proofs.Reconfiguring.{reconfigured_leaves}
use Rattle.daemon_world.proofs.Starting.{MayStart, Plans, plans_start, starts_any}
use Rattle.ctl_node_side.proofs.Silent.{silenced_raised}

-- the nodes stay, and what is held of them
pub left_held : (s s' : State) (node : List ℕ) → s'.nodes ≡ s.nodes → s'.dropped ≡ s.dropped
    → ((place : ℕ) (claim : Claim) → IsHeldAt s.jobs place claim → IsHeldAt s'.jobs place claim) → LeavesNode s s' node
left_held s s' node nodes dropped held = placed s s' node (record {
  place = ap (place_named node) nodes;
  dropped = dropped;
  heard = λ place there. ap (λ (all : List NodeRecord). heard_of all place) nodes;
  held = λ place there up. inl (
    ap (λ (all : List NodeRecord). is_up_at all place) (sym nodes) ∙ up,
    λ claim holds. held place claim holds,
  );
  emptied = λ place there told. ap (λ (all : List NodeRecord). is_at is_emptied all place) (sym nodes) ∙ told;
})

-- each job keeps what it holds
pub map_held : (jobs : List JobRecord) (after : JobRecord → JobRecord) (place : ℕ) (claim : Claim)
    → ((job : JobRecord) → Holds place claim job → Holds place claim (after job)) → IsHeldAt jobs place claim
    → IsHeldAt (map after jobs) place claim
map_held jobs after place claim each held =
    any_map (λ (job : JobRecord). Unit {0}) (Holds place claim) (Holds place claim) after jobs
    (λ job any holds. each job holds) (λ k d below. tt) held

-- ---- what users do to jobs

cancelled-alike : (now : ℕ) (job : JobRecord) (state : JobState) → IsAlike job (cancelled_in now job state)
cancelled-alike now job Pending = cancel_alike now job
cancelled-alike now job Running = leave_alike final.Cancelled now None job
cancelled-alike now job (Completing end) = again_alike job
cancelled-alike now job (Ended end) = itself job

limit-alike : (limit : Option Limit) (job : JobRecord) → IsAlike job (with_limit limit job)
limit-alike None job = itself job
limit-alike (Some limit) job = record { id = refl; starts = refl; parts = refl }

nice-alike : (nice : Option Nice) (job : JobRecord) → IsAlike job (with_nice nice job)
nice-alike None job = itself job
nice-alike (Some nice) job = record { id = refl; starts = refl; parts = refl }

done-alike : (now : ℕ) (user : List ℕ) (action : Action) (job : JobRecord) → IsAlike job (done_to now user action job)
done-alike now user act.Cancel job = cancelled-alike now job job.state
done-alike now user (act.Hold for_owner) job = record { id = refl; starts = refl; parts = refl }
done-alike now user act.Release job = record { id = refl; starts = refl; parts = refl }
done-alike now user act.Requeue job = leave_alike final.Requeue now None job
done-alike now user (act.Update limit nice) job =
    alike_on job (with_limit limit job) (with_nice nice (with_limit limit job)) (limit-alike limit job)
    (nice-alike nice (with_limit limit job))

change-left : (s : State) (now : ℕ) (user : List ℕ) (action : Action) (named : JobRecord → Bool) (node : List ℕ)
    → LeavesNode s (change_after s now user action named) node
change-left s now user action named node =
    left_held s (change_after s now user action named) node refl refl
    (λ place claim. map_held s.jobs (done_if s now user action named) place claim
    (λ job. cond_both (named job && may_do s user action job) (done_to now user action job) job
    (λ (after : JobRecord). Holds place claim job → Holds place claim after)
    (λ is holds. alike_holds place claim job (done_to now user action job) (done-alike now user action job) holds)
    (λ not holds. holds)))

-- ---- what operators say of nodes

loss-held : (s : State) (now : ℕ) (lost : ℕ → Bool) (place : ℕ) (claim : Claim) → lost place ≡ false
    → IsHeldAt s.jobs place claim → IsHeldAt (map (after_loss now lost) s.jobs) place claim
loss-held s now lost place claim kept =
    map_held s.jobs (after_loss now lost) place claim (λ job holds. loss_holds now place lost claim job kept holds)

update-left : (s : State) (now : ℕ) (names : List (List ℕ)) (state : NodeOrder) (node : List ℕ)
    → LeavesNode s (update_after s now names state) node
update-left s now names order.Down node =
    nodes_left (changed_where change.Down (is_among names)) (is_among names) (keeps_down (is_among names)) s
    (update_after s now names order.Down) node refl refl
    (λ place claim kept. loss-held s now (lost_by s.nodes names order.Down) place claim kept)
update-left s now names order.Drain node =
    nodes_left (changed_where change.Drain (is_among names)) (λ node. false) (keeps_drain (is_among names)) s
    (update_after s now names order.Drain) node refl refl
    (λ place claim kept. loss-held s now (lost_by s.nodes names order.Drain) place claim refl)
update-left s now names order.Resume node =
    nodes_left (changed_where change.Resume (is_among names)) (λ node. false) (keeps_resume (is_among names)) s
    (update_after s now names order.Resume) node refl refl
    (λ place claim kept. loss-held s now (lost_by s.nodes names order.Resume) place claim refl)

-- ---- a pass

silence-left : (s : State) (now : ℕ) (node : List ℕ) → LeavesNode s (silenced s now) node
silence-left s now node =
    let silent = falls_silent s.settings.slurmd_timeout now in
    cond_both (any_silent s now) (without_silent s now) s (λ (t : State). LeavesNode s t node)
    (λ some. nodes_left (changed_where change.Silent silent) silent (keeps_silent silent) s (without_silent s now) node
    refl refl
    (λ place claim kept. loss-held s now (silent_at s now) place claim kept))
    (λ none. left_same s s node refl refl refl)

-- a job that holds something neither waits nor has ended
record HoldsOn (place : ℕ) (claim : Claim) (job : JobRecord) : Type 0 where
  pub holds : Holds place claim job
  pub state : is_holding job.state ≡ true

has-parts : (place : ℕ) (claim : Claim) (parts : List Part) → Any (IsClaimed place claim) parts
    → has_members parts ≡ true
has-parts place claim [] any = absurd (any_none (IsClaimed place claim) any)
has-parts place claim (part ∷ later) any = refl

holds-on : (moment place : ℕ) (claim : Claim) (job : JobRecord) → IsKept moment job → Holds place claim job
    → HoldsOn place claim job
holds-on moment place claim job kept holds = record {
  holds = holds;
  state = sym kept.parts.some ∙ has-parts place claim job.parts holds.part;
}

holding-goes-on : (now place : ℕ) (claim : Claim) (job : JobRecord) → HoldsOn place claim job
    → HoldsOn place claim (timed_out now job)
holding-goes-on now place claim job on =
    cond_both (is_over now job) (changed (Leave final.Timeout now None) job) job (HoldsOn place claim)
    (λ over. record {
      holds = alike_holds place claim job (changed (Leave final.Timeout now None) job)
          (leave_alike final.Timeout now None job) on.holds;
      state = cond_both (is_running job.state) (record job {
        state = Completing final.Timeout;
        ended = Some now;
        exit = None;
      }) job (λ (after : JobRecord). is_holding after.state ≡ true) (λ runs. refl) (λ other. on.state);
    })
    (λ not. on)

-- whoever goes for another job holds on
held-gone : (now place : ℕ) (claim : Claim) (gone : List ℕ) (job : JobRecord) → Holds place claim job
    → Holds place claim (preempted now gone job)
held-gone now place claim gone job holds =
    cond_both (list_any (λ id. has_id id job) gone) (changed (Leave final.Requeue now None) job) job (Holds place claim)
    (λ goes. alike_holds place claim job (changed (Leave final.Requeue now None) job)
    (leave_alike final.Requeue now None job) holds) (λ stays. holds)

not-ended : (state : JobState) → is_holding state ≡ true → is_ended state ≡ false
not-ended Pending holds = refl
not-ended Running holds = refl
not-ended (Completing end) holds = refl
not-ended (Ended end) holds = absurd (both_ways false refl holds)

not-pending : (state : JobState) → is_holding state ≡ true → is_pending state ≡ false
not-pending Pending holds = absurd (both_ways false refl holds)
not-pending Running holds = refl
not-pending (Completing end) holds = refl
not-pending (Ended end) holds = refl

never-old : (s : State) (now : ℕ) (job : JobRecord) → is_holding job.state ≡ true → gone s now job ≡ false
never-old s now job holds = rw (not-ended job.state holds) refl

held-left : (s : State) (now place : ℕ) (claim : Claim) → IsSound s → IsHeldAt s.jobs place claim
    → Any (HoldsOn place claim) (jobs_left s now)
held-left s now place claim sound held =
    any_filter (λ (job : JobRecord). Unit {0}) (HoldsOn place claim) (λ job. not (gone s now job))
    (map (timed_out now) s.jobs)
    (λ job all on. not_from_false (gone s now job) (never-old s now job on.state)) (λ k d below. tt)
    (any_map (IsKept s.moment) (Holds place claim) (HoldsOn place claim) (timed_out now) s.jobs
    (λ job kept holds. holding-goes-on now place claim job (holds-on s.moment place claim job kept holds)) sound.jobs
    held)

pass-left : Plans → (s : State) (now : ℕ) (node : List ℕ) → IsSound s → MayStart (ready s now).jobs (placements s now)
    → LeavesNode s (pass_after s now) node
pass-left plans s now node sound may =
    left_held s (pass_after s now) node refl refl
    (λ place claim held. any_map (λ (job : JobRecord). Unit {0}) (HoldsOn place claim) (Holds place claim)
    (preempted now (victims_in s now)) (outcome s now).jobs
    (λ job any on. held-gone now place claim (victims_in s now) job on.holds) (λ k d below. tt)
    (starts_any (HoldsOn place claim) (λ job on. not-pending job.state on.state) s now (jobs_left s now)
    (placements s now) may (held-left s now place claim sound held)))

-- what the crates below promise of passes
pub record Passes : Type 0 where
  pub plans : Plans
  pub silence : (s : State) (now : ℕ) → IsSound s → s.moment ≤ now → now ≤ last_moment → IsSound (silenced s now)
  pub planned : (s : State) (now : ℕ) → IsSound s → s.moment ≤ now → now ≤ last_moment
      → IsSound (record (ready s now) { plan = []; moment = now })

-- what a pass plans may start
pub pass_may : Passes → (s : State) (now : ℕ) → IsSound s → s.moment ≤ now → now ≤ last_moment
    → MayStart (ready s now).jobs (placements s now)
pass_may passes s now sound raised in_time =
    plans_start passes.plans s now (passes.planned s now sound raised in_time).rising

whole-pass-left : Passes → (s : State) (now : ℕ) (node : List ℕ) → IsSound s → s.moment ≤ now → now ≤ last_moment
    → LeavesNode s (after_pass s now) node
whole-pass-left passes s now node sound raised in_time =
    let t = silenced s now in
    let sound' = passes.silence s now sound raised in_time in
    leaves_on s t (after_pass s now) node (silence-left s now node)
    (pass-left passes.plans t now node sound'
    (pass_may passes t now sound' (silenced_raised s now raised) in_time))

-- ---- each request

-- what a request makes that is no report leaves the node's side alone
leaves-made : Passes → PlacesAreNamed → (s : State) (moment : ℕ) (user : List ℕ) (request : Request) (after : State)
    (node : List ℕ) → IsSound s → IsNoneGone s node → s.moment ≤ moment → moment ≤ last_moment → IsNoReport request
    → MayMake s moment user request after → LeavesNode s after node
leaves-made passes law s moment user request after node sound apart later in_time own (BySubmit desc basis found) =
    left_held s after node refl refl
    (λ place claim held. any_left (Holds place claim) s.jobs (new_jobs s moment user desc basis desc.array) held)
leaves-made passes law s moment user request after node sound apart later in_time own (ByAction action named asks) =
    change-left s moment user action named node
leaves-made passes law s moment user request after node sound apart later in_time own (ByUpdateNode nodes order) =
    update-left s moment nodes order node
leaves-made passes law s moment user request after node sound apart later in_time own (ByReport report place found) =
    absurd own
leaves-made passes law s moment user request after node sound apart later in_time own ByPass =
    whole-pass-left passes s moment node sound later in_time
leaves-made passes law s moment user request after node sound apart later in_time own (ByReconfigure conf bytes) =
    reconfigured_leaves law s moment conf node sound.nodes.named apart
leaves-made passes law s moment user request after node sound apart later in_time own other =
    left_held s after node refl refl (λ place claim held. held)

-- Whatever is asked but a report leaves each node's side alone.
pub asked_leaves : Passes → PlacesAreNamed → (s : State) (now : ℕ) (user : List ℕ) (request : Request) (node : List ℕ)
    → IsSound s → IsNoneGone s node → IsNoReport request → LeavesNode s (state_after s now user request) node
asked_leaves passes law s now user request node sound apart own =
    let moment = raised s now in
    step_is (λ (t : State). LeavesNode s t node) s now user request (left_same s s node refl refl refl)
    (λ reply after is. leaves_on s after (entered moment (size_of request) after) node
    (leaves-made passes law s moment user request after node sound apart (omega arith)
    (omega (arith, sound.moment, is.in_time)) own is.kind)
    (left_same after (entered moment (size_of request) after) node refl refl refl))
