-- Only users' associations only something.
use Rattle.std.proofs.Common.{bytes_eq, ℕ, ◌≡◌, ◌≢◌, ◌∙◌, ◌+◌, ◌≤◌, zero, suc, Bool, true, false, ◌&&◌, if◌then◌else◌, List, [], ◌∷◌, map, All, Option, Some, None, nat_eq, slice_get, refl, ap, sym, subst, arith}
use Rattle.std.specs.Prelude.{min, option_map}
use Rattle.std.specs.List.{enumerate_from, zip}
use Rattle.std.proofs.lemmas.Bool.{cond_both, eqb-true, false_from_ne_true}
use Rattle.std.proofs.lemmas.List.Elements.{All-cons, All-head, All-nil, All-tail, All-weaker}
use Rattle.list_lemmas.proofs.Sums.{sum_by-none}
use Rattle.request_data.specs.declared.report.Report.{Report as Told}
use Rattle.request_data.specs.declared.request.Request.{Request}
use Rattle.job_table.specs.declared.record.JobRecord.{JobRecord}
use Rattle.job_table.specs.Usage.{charged, greatest_usage, grown, used_of, used_when_left}
use Rattle.run_limits.specs.declared.record.AssocRecord.{AssocRecord}
use Rattle.run_limits.specs.Accounts.{is_of_user}
use Rattle.ctl_state.specs.State.{State}
use Rattle.ctl_state.specs.Soundness.{IsOfAccounts}
use Rattle.ctl_jobs.specs.Changing.{done_if}
use Rattle.ctl_nodes.specs.Failing.{after_loss}
use Rattle.ctl_nodes.specs.Updating.{lost_by}
use Rattle.ctl_pass.specs.Limits.{timed_out}
use Rattle.ctl_pass.specs.Passing.{begun_in, outcome}
use Rattle.ctl_pass.specs.Preempting.{preempted, victims_in}
use Rattle.ctl_node_side.specs.Answering.{is_restarted}
use Rattle.ctl_node_side.specs.Passes.{after_pass}
use Rattle.ctl_node_side.specs.Reporting.{reported}
use Rattle.ctl_node_side.specs.Restarting.{met}
use Rattle.ctl_node_side.specs.Silence.{any_silent, silent_at, silenced}
use Rattle.step_lemmas.proofs.Making.{ByAction, ByPass, ByReport, ByUpdateNode, MayMake}
use Rattle.saved_laws.specs.Kept.{OnlyUsersUse}
use Rattle.saved_laws.proofs.NamesKept.{IsOfUser, fixed_stays, user_fixed}
use Rattle.saved_laws.proofs.Walks.{begun_true, met_true, silenced_true}

-- each job's association is a user's
pub of_users : (s : State) → All (IsOfAccounts s.assocs s.qos) s.jobs → All (IsOfUser s.assocs) s.jobs
of_users s all =
    All-weaker (IsOfAccounts s.assocs s.qos) (IsOfUser s.assocs)
    (λ job of. record { user = user-of job.user (slice_get s.assocs job.assoc) of.assoc }) s.jobs all
  where
    user-true : (user : List ℕ) (assoc : AssocRecord) → is_of_user user assoc ≡ true → assoc.conf.user ≡ true
    user-true user assoc is = by (assoc.conf.user) refl
      where
        by : (b : Bool) → assoc.conf.user ≡ b → assoc.conf.user ≡ true
        by true same = same
        by false same = absurd (let no = ap (λ (b : Bool). b && bytes_eq assoc.conf.name user) same in let yes = sym no ∙ is in cc)

    user-of : (user : List ℕ) (found : Option AssocRecord) → option_map (is_of_user user) found ≡ Some true
        → option_map (λ (assoc : AssocRecord). assoc.conf.user) found ≡ Some true
    user-of user None is = absurd (cc)
    user-of user (Some assoc) is =
        let of : is_of_user user assoc ≡ true = cc in
        ap Some (user-true user assoc of)

-- ---- what is charged at a place

-- nothing is charged where no job is of the place
none-charged : (now : ℕ) (jobs after : List JobRecord) (place : ℕ)
    → All (λ (job : JobRecord). job.assoc ≢ place) jobs → used_of now jobs after place ≡ 0
unfolding used_of
none-charged now jobs after place others =
    sum_by-none (λ (one : JobRecord × JobRecord). if nat_eq one.0.assoc place then used_when_left now one.0 one.1 else 0)
    (zip jobs after) (zipped jobs after others)
  where
    zipped : (jobs after : List JobRecord) → All (λ (job : JobRecord). job.assoc ≢ place) jobs
        → All (λ (one : JobRecord × JobRecord).
        (if nat_eq one.0.assoc place then used_when_left now one.0 one.1 else 0) ≡ 0) (zip jobs after)
    zipped [] after others = All-nil (λ (one : JobRecord × JobRecord).
        (if nat_eq one.0.assoc place then used_when_left now one.0 one.1 else 0) ≡ 0)
    zipped (job ∷ jobs) [] others = All-nil (λ (one : JobRecord × JobRecord).
        (if nat_eq one.0.assoc place then used_when_left now one.0 one.1 else 0) ≡ 0)
    zipped (job ∷ jobs) (one ∷ after) others =
        let Other : JobRecord → Type 0 = λ job. job.assoc ≢ place in
        let not : nat_eq job.assoc place ≡ false =
        false_from_ne_true (nat_eq job.assoc place) (λ is. All-head Other job jobs others (eqb-true job.assoc place is)) in
        All-cons (λ (one : JobRecord × JobRecord).
        (if nat_eq one.0.assoc place then used_when_left now one.0 one.1 else 0) ≡ 0) (job, one) (zip jobs after)
        (ap (λ (is : Bool). if is then used_when_left now job one else 0) not)
        (zipped jobs after (All-tail Other job jobs others))

-- a total with nothing more
charged-at : (now : ℕ) (jobs after : List JobRecord) (first : ℕ) (totals : List ℕ) (k total : ℕ)
    → slice_get (map (λ (one : ℕ × ℕ). grown one.1 (used_of now jobs after one.0)) (enumerate_from first totals)) k ≡ Some total
    → used_of now jobs after (first + k) ≡ 0 → slice_get totals k ≡ Some total
charged-at now jobs after first [] k total is none = absurd (cc)
charged-at now jobs after first (one ∷ totals) zero total is none =
    let more : used_of now jobs after first ≡ 0 = ap (used_of now jobs after) (omega arith) ∙ none in
    let same : grown one (used_of now jobs after first) ≡ total = cc in
    ap Some (sym (ap (grown one) more) ∙ same)
charged-at now jobs after first (one ∷ totals) (suc k) total is none =
    charged-at now jobs after (first + 1) totals k total is (ap (used_of now jobs after) (omega arith) ∙ none)

-- what is charged stays below the most
charged-most : (now : ℕ) (jobs after : List JobRecord) (first : ℕ) (totals : List ℕ)
    → All (λ total. total ≤ greatest_usage) totals
    → All (λ total. total ≤ greatest_usage)
    (map (λ (one : ℕ × ℕ). grown one.1 (used_of now jobs after one.0)) (enumerate_from first totals))
charged-most now jobs after first [] most = All-nil (λ (total : ℕ). total ≤ greatest_usage)
charged-most now jobs after first (total ∷ totals) most =
    All-cons (λ (total : ℕ). total ≤ greatest_usage) (grown total (used_of now jobs after first))
    (map (λ (one : ℕ × ℕ). grown one.1 (used_of now jobs after one.0)) (enumerate_from (first + 1) totals))
    (cond_both (nat_eq (used_of now jobs after first) 0) total (min (total + used_of now jobs after first) greatest_usage)
    (λ total. total ≤ greatest_usage) (λ none. All-head (λ (total : ℕ). total ≤ greatest_usage) total totals most)
    (λ some. omega arith))
    (charged-most now jobs after (first + 1) totals (All-tail (λ (total : ℕ). total ≤ greatest_usage) total totals most))

-- only users' associations are charged
pub charged_users : (now : ℕ) (assocs : List AssocRecord) (jobs after : List JobRecord) (totals : List ℕ)
    → All (IsOfUser assocs) jobs → OnlyUsersUse assocs totals → OnlyUsersUse assocs (charged now jobs after totals)
unfolding charged
charged_users now assocs jobs after totals of users = record {
  most = charged-most now jobs after 0 totals users.most;
  users = λ k assoc total at is not.
      users.users k assoc total at
      (charged-at now jobs after 0 totals k total is
      (ap (used_of now jobs after) (omega arith)
      ∙ none-charged now jobs after k (All-weaker (IsOfUser assocs) (λ (job : JobRecord). job.assoc ≢ k)
      (λ job of same.
      let user : option_map (λ (assoc : AssocRecord). assoc.conf.user) (Some assoc) ≡ Some true =
      sym (ap (λ place. option_map (λ (assoc : AssocRecord). assoc.conf.user) (slice_get assocs place)) same
      ∙ ap (option_map (λ (assoc : AssocRecord). assoc.conf.user)) at) ∙ of.user in
      absurd (let is : assoc.conf.user ≡ true = cc in let both = sym not ∙ is in cc)) jobs of)))
      not;
}

-- ---- what each request makes

-- only users' associations have used something
abbrev Use : State → Type 0
Use s = OnlyUsersUse s.assocs s.usage

-- what is kept through a step that may charge
pub record UseBy (kept : List AssocRecord) (s : State) : Type 0 where
  pub assocs : s.assocs ≡ kept
  pub of : All (IsOfUser kept) s.jobs
  pub users : OnlyUsersUse kept s.usage

met-use : (s : State) (now node : ℕ) (report : Told) → UseBy s.assocs s → UseBy s.assocs (met s now node report)
met-use s now node report by =
    let jobs = met_true (IsOfUser s.assocs) (fixed_stays (IsOfUser s.assocs) (user_fixed s.assocs)) s now node report by.of in
    cond_both (is_restarted s report) _ s (λ (t : State). All (IsOfUser s.assocs) t.jobs → UseBy s.assocs t)
    (λ restarted. λ jobs. record {
      assocs = refl;
      of = jobs;
      users = charged_users now s.assocs s.jobs (map (after_loss now (nat_eq node)) s.jobs) s.usage by.of by.users;
    })
    (λ not. λ jobs. by) jobs

silenced-use : (s : State) (now : ℕ) → UseBy s.assocs s → UseBy s.assocs (silenced s now)
silenced-use s now by =
    let jobs = silenced_true (IsOfUser s.assocs) (fixed_stays (IsOfUser s.assocs) (user_fixed s.assocs)) s now by.of in
    cond_both (any_silent s now) _ s (λ (t : State). All (IsOfUser s.assocs) t.jobs → UseBy s.assocs t)
    (λ some. λ jobs. record {
      assocs = refl;
      of = jobs;
      users = charged_users now s.assocs s.jobs (map (after_loss now (silent_at s now)) s.jobs) s.usage by.of by.users;
    })
    (λ none. λ jobs. by) jobs

pub made_use : (s : State) (moment : ℕ) (user : List ℕ) (request : Request) (after : State)
    → All (IsOfUser s.assocs) s.jobs → Use s → MayMake s moment user request after → Use after
made_use s moment user request after of only (ByAction action named asks) =
    charged_users moment s.assocs s.jobs (map (done_if s moment user action named) s.jobs) s.usage of only
made_use s moment user request after of only (ByUpdateNode names order) =
    charged_users moment s.assocs s.jobs (map (after_loss moment (lost_by s.nodes names order)) s.jobs) s.usage of only
made_use s moment user request after of only (ByReport report node found) =
    let by = met-use s moment node report (record { assocs = refl; of = of; users = only }) in
    let t = met s moment node report in
    subst (λ assocs. OnlyUsersUse assocs (charged moment t.jobs (map (reported moment node report) t.jobs) t.usage)) (sym by.assocs)
    (charged_users moment s.assocs t.jobs (map (reported moment node report) t.jobs) t.usage by.of by.users)
made_use s moment user request after of only ByPass =
    let by = silenced-use s moment (record { assocs = refl; of = of; users = only }) in
    let t = silenced s moment in
    let over : OnlyUsersUse s.assocs (begun_in t moment).usage =
    charged_users moment s.assocs t.jobs (map (timed_out moment) t.jobs) t.usage by.of by.users in
    let begun = begun_true (IsOfUser s.assocs) (fixed_stays (IsOfUser s.assocs) (user_fixed s.assocs)) s moment of in
    subst (λ assocs. OnlyUsersUse assocs (after_pass s moment).usage) (sym by.assocs)
    (charged_users moment s.assocs (outcome t moment).jobs
    (map (preempted moment (victims_in t moment)) (outcome t moment).jobs) (begun_in t moment).usage begun over)
made_use s moment user request after of only kind = only
