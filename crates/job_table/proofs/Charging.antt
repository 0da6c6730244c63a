-- What associations are charged with while jobs become others.
use Rattle.std.proofs.Common.{◌≡◌, ℕ, zero, suc, ◌+◌, ◌*◌, ◌-◌, ◌^◌, ◌≤◌, ◌<◌, Bool, true, false, ◌&&◌, not, cond, min, List, [], ◌∷◌, map, length, get_or, nat_eq, slice_get, slice_set, inl, inr, Option, None, Some, refl, sym, ap, ◌∙◌, arith, true≢false, zero-add, suc-add}
use Rattle.std.specs.Prelude.{sum_by, is_some}
use Rattle.std.specs.List.{AllZip, enumerate_from, zip}
use Rattle.std.proofs.lemmas.Bool.{cond_both, cases_lt}
use Rattle.std.proofs.Math.Nat.{mul-zero, le-mul_of_pos_right}
use Rattle.std.proofs.lemmas.Bool.Decides.{nat_tests}
use Rattle.std.proofs.lemmas.List.Sums.{sum_by-cons}
use Rattle.request_data.specs.declared.state.JobState.{JobState}
use Rattle.request_data.specs.declared.state.JobState.TheVariants.{Pending, Running, Completing, Ended}
use Rattle.request_data.specs.declared.state.Final.{Final}
use Rattle.request_data.specs.declared.state.Final.TheVariants.{Cancelled, Requeue}
use Rattle.job_table.specs.declared.record.Part.{Part}
use Rattle.job_table.specs.declared.record.JobRecord.{JobRecord}
use Rattle.job_table.specs.declared.change.Change.{Change}
use Rattle.job_table.specs.declared.change.Change.TheVariants.{Start, Leave, CancelPending, CancelRequeue, DropPart, SetHold, SetLimit, SetNice}
use Rattle.job_table.specs.Changes.{changed, not_again, off_node, parts_off, with_left}
use Rattle.job_table.specs.JobStates.{is_pending, is_running, left}
use Rattle.job_table.specs.Table.{JobsView}
use Rattle.job_table.specs.Usage.{Charges, IsNoStart, RunsOn, charged, charged_by, grown, is_start, used_by, used_by_change, used_of, used_when_left}
use Rattle.job_table.specs.Walks.{map_at}

-- a total that grows twice
grown-twice : (total x y : ℕ) → grown (grown total x) y ≡ grown total (x + y)
grown-twice total zero y = ap (grown total) (sym (zero-add y))
grown-twice total (suc x) zero =
    let same : suc x ≡ suc x + zero = omega arith in
    ap (grown total) same
grown-twice total (suc x) (suc y) = grind (arith, nat_tests)

-- the totals from a place on, each grown by what this makes of its place
abbrev charged-from : (ℕ → ℕ) → ℕ → List ℕ → List ℕ
charged-from by n totals = map (λ (one : ℕ × ℕ). grown one.1 (by one.0)) (enumerate_from n totals)

charged-nothing : (by : ℕ → ℕ) (n : ℕ) (totals : List ℕ) → ((p : ℕ) → n ≤ p → by p ≡ 0) → charged-from by n totals ≡ totals
charged-nothing by n [] none = refl
charged-nothing by n (total ∷ totals) none =
    let here : grown total (by n) ≡ total = rw (none n (omega arith)) refl in
    let later = charged-nothing by (n + 1) totals (λ p above. none p (omega (arith, above))) in
    cc

charged-twice : (one two both : ℕ → ℕ) (n : ℕ) (totals : List ℕ) → ((p : ℕ) → both p ≡ one p + two p)
    → charged-from two n (charged-from one n totals) ≡ charged-from both n totals
charged-twice one two both n [] sums = refl
charged-twice one two both n (total ∷ totals) sums =
    let here : grown (grown total (one n)) (two n) ≡ grown total (both n) =
    grown-twice total (one n) (two n) ∙ ap (grown total) (sym (sums n)) in
    let later = charged-twice one two both (n + 1) totals sums in
    cc

charged-at : (by : ℕ → ℕ) (n place more : ℕ) (totals : List ℕ) → ((p : ℕ) → by p ≡ cond (nat_eq (n + place) p) more 0)
    → charged-from by n totals ≡ map_at place (λ total. grown total more) totals
charged-at by n place more [] is = refl
charged-at by n zero more (total ∷ totals) is =
    let here : grown total (by n) ≡ grown total more = ap (grown total) (grind (arith, nat_tests, is n)) in
    let later = charged-nothing by (n + 1) totals (λ p above. grind (arith, nat_tests, is p)) in
    cc
charged-at by n (suc place) more (total ∷ totals) is =
    let none : by n ≡ 0 = grind (arith, nat_tests, is n) in
    let here : grown total (by n) ≡ total = rw none refl in
    let moved : n + suc place ≡ n + 1 + place = omega arith in
    let later = charged-at by (n + 1) place more totals (λ p. is p ∙ ap (λ k. cond (nat_eq k p) more 0) moved) in
    cc

-- what one job that becomes another adds to the association at a place
abbrev adds : ℕ → ℕ → JobRecord → JobRecord → ℕ
adds now place job after = cond (nat_eq job.assoc place) (used_when_left now job after) 0

left-twice : (a b d : Bool) (used again : ℕ) → (b ≡ true → a ≡ true) → (d ≡ true → b ≡ true) → (b ≡ true → again ≡ used)
    → cond (a && not d) used 0 ≡ cond (a && not b) used 0 + cond (b && not d) again 0
left-twice false false false used again first second same = refl
left-twice false false true used again first second same = absurd (true≢false (sym (second refl)))
left-twice false true d used again first second same = absurd (true≢false (sym (first refl)))
left-twice true false false used again first second same = omega arith
left-twice true false true used again first second same = absurd (true≢false (sym (second refl)))
left-twice true true false used again first second same = sym (same refl) ∙ sym (zero-add again)
left-twice true true true used again first second same = refl

split-sum : (same : Bool) (x y z : ℕ) → x ≡ y + z → cond same x 0 ≡ cond same y 0 + cond same z 0
split-sum false x y z is = refl
split-sum true x y z is = is

left-sum : (now : ℕ) (a b d : JobRecord) → RunsOn now a b → RunsOn now b d
    → used_when_left now a d ≡ used_when_left now a b + used_when_left now b d
unfolding used_when_left
left-sum now a b d first second =
    left-twice (is_running a.state) (is_running b.state) (is_running d.state) (used_by now a) (used_by now b)
    first.ran second.ran first.used

adds-twice : (now place : ℕ) (a b d : JobRecord) → RunsOn now a b → RunsOn now b d
    → adds now place a d ≡ adds now place a b + adds now place b d
adds-twice now place a b d first second =
    split-sum (nat_eq a.assoc place) (used_when_left now a d) (used_when_left now a b) (used_when_left now b d)
    (left-sum now a b d first second)
    ∙ ap (λ who. adds now place a b + cond (nat_eq who place) (used_when_left now b d) 0) (sym first.assoc)

used-twice : (now place : ℕ) (xs ys zs : List JobRecord) → AllZip (RunsOn now) xs ys → AllZip (RunsOn now) ys zs
    → used_of now xs zs place ≡ used_of now xs ys place + used_of now ys zs place
unfolding used_of
used-twice now place [] [] [] first second = refl
used-twice now place [] [] (z ∷ zs) first second = absurd second
used-twice now place [] (y ∷ ys) zs first second = absurd first
used-twice now place (x ∷ xs) [] zs first second = absurd first
used-twice now place (x ∷ xs) (y ∷ ys) [] first second = absurd second
used-twice now place (a ∷ xs) (b ∷ ys) (d ∷ zs) first second =
    let here = adds-twice now place a b d first.0 second.0 in
    let later = used-twice now place xs ys zs first.1 second.1 in
    let sums = λ (x y : JobRecord) (front back : List JobRecord). sum_by-cons (λ (one : JobRecord × JobRecord). adds now place one.0 one.1) (x, y) (zip front back) in
    omega (arith, here, later, sums a d xs zs, sums a b xs ys, sums b d ys zs)

used-none : (now place : ℕ) (jobs : List JobRecord) → used_of now jobs jobs place ≡ 0
unfolding used_of used_when_left
used-none now place [] = refl
used-none now place (job ∷ jobs) =
    let rest = used-none now place jobs in
    let nothing : adds now place job job ≡ 0 = none (nat_eq job.assoc place) (is_running job.state) (used_by now job) in
    omega (arith, rest, nothing, sum_by-cons (λ (one : JobRecord × JobRecord). adds now place one.0 one.1) (job, job) (zip jobs jobs))
  where
    none : (same runs : Bool) (used : ℕ) → cond same (cond (runs && not runs) used 0) 0 ≡ 0
    none false runs used = refl
    none true false used = refl
    none true true used = refl

pub runs_on-same : (now : ℕ) (job : JobRecord) → RunsOn now job job
runs_on-same now job = record { assoc = refl; ran = λ runs. runs; used = λ runs. refl }

pub runs_on-twice : (now : ℕ) (job middle after : JobRecord) → RunsOn now job middle → RunsOn now middle after
    → RunsOn now job after
runs_on-twice now job middle after first second = record {
  assoc = second.assoc ∙ first.assoc;
  ran = λ runs. first.ran (second.ran runs);
  used = λ runs. second.used runs ∙ first.used (second.ran runs);
}

-- what stays of a job that runs
kept-runs_on : (now : ℕ) (job after : JobRecord) → after.assoc ≡ job.assoc → after.state ≡ job.state
    → after.parts ≡ job.parts → after.started ≡ job.started → RunsOn now job after
unfolding used_by
kept-runs_on now job after assoc state parts started =
    record { assoc = assoc; ran = λ runs. rw state at runs; used = λ runs. rw (parts, started) refl }

-- a job that doesn't run afterwards
stopped-runs_on : (now : ℕ) (job after : JobRecord) → after.assoc ≡ job.assoc → is_running after.state ≡ false
    → RunsOn now job after
stopped-runs_on now job after assoc stopped = record {
  assoc = assoc;
  ran = λ runs. absurd (true≢false (sym runs ∙ stopped));
  used = λ runs. absurd (true≢false (sym runs ∙ stopped));
}

not_again-runs_on : (now : ℕ) (state : JobState) (job : JobRecord) → RunsOn now job (not_again job state)
not_again-runs_on now Pending job = runs_on-same now job
not_again-runs_on now Running job = runs_on-same now job
not_again-runs_on now (Completing Requeue) job = stopped-runs_on now job (record job { state = Completing Cancelled }) refl refl
not_again-runs_on now (Completing final) job = runs_on-same now job
not_again-runs_on now (Ended final) job = runs_on-same now job

left-stopped : (final : Final) → is_running (left final) ≡ false
left-stopped Requeue = refl
left-stopped final = refl

with_left-runs_on : (now moment : ℕ) (final : Final) (rest : List Part) (job : JobRecord) → is_running job.state ≡ false
    → RunsOn now job (with_left moment final rest job)
with_left-runs_on now moment final [] job stopped =
    stopped-runs_on now job (with_left moment final [] job) refl (left-stopped final)
with_left-runs_on now moment final (part ∷ later) job stopped =
    stopped-runs_on now job (with_left moment final (part ∷ later) job) refl stopped

off_node-runs_on : (now node moment : ℕ) (state : JobState) (job : JobRecord) → job.state ≡ state
    → RunsOn now job (off_node moment node job state)
off_node-runs_on now node moment Pending job is = runs_on-same now job
off_node-runs_on now node moment Running job is = runs_on-same now job
off_node-runs_on now node moment (Completing final) job is =
    with_left-runs_on now moment final (parts_off node job.parts) job (rw is refl)
off_node-runs_on now node moment (Ended final) job is = runs_on-same now job

-- a job that a change takes on
pub changed-runs_on : (now : ℕ) (change : Change) (job : JobRecord) → IsNoStart now change
    → RunsOn now job (changed change job)
changed-runs_on now (Start moment parts nodes) job never = absurd never
changed-runs_on now (Leave final moment exit) job at =
    let after : JobRecord = record job { state = Completing final; ended = Some now; exit = exit } in
    rw at (cond_both (is_running job.state) after job (RunsOn now job)
    (λ runs. record { assoc = refl; ran = λ never. absurd (true≢false (sym never)); used = λ never. absurd (true≢false (sym never)) })
    (λ idle. runs_on-same now job))
changed-runs_on now (CancelPending moment) job none =
    let after : JobRecord = record job { state = Ended Cancelled; ended = Some moment } in
    cond_both (is_pending job.state) after job (RunsOn now job)
    (λ runs. record { assoc = refl; ran = λ never. absurd (true≢false (sym never)); used = λ never. absurd (true≢false (sym never)) })
    (λ idle. runs_on-same now job)
changed-runs_on now CancelRequeue job none = not_again-runs_on now job.state job
changed-runs_on now (DropPart node moment) job none = off_node-runs_on now node moment job.state job refl
changed-runs_on now (SetHold by) job none = kept-runs_on now job (record job { held_by = by }) refl refl refl refl
changed-runs_on now (SetLimit limit) job none =
    kept-runs_on now job (record job { limit = limit }) refl refl refl refl
changed-runs_on now (SetNice nice) job none =
    kept-runs_on now job (record job { nice = nice }) refl refl refl refl

not-left : (runs : Bool) (used : ℕ) → cond (runs && not runs) used 0 ≡ 0
not-left false used = refl
not-left true used = refl

adds-none : (now place : ℕ) (job : JobRecord) → adds now place job job ≡ 0
unfolding used_when_left
adds-none now place job = none (nat_eq job.assoc place)
  where
    none : (same : Bool) → cond same (cond (is_running job.state && not (is_running job.state)) (used_by now job) 0) 0 ≡ 0
    none false = refl
    none true = not-left (is_running job.state) (used_by now job)

some-injective : {one other : JobRecord} → Some one ≡ Some other → one ≡ other
some-injective e = cc

none-some : (found : Option JobRecord) (job : JobRecord) → found ≡ None → found ≡ Some job → ⊥
none-some found job none some = true≢false (sym (ap is_some some) ∙ ap is_some none)

-- what a change takes out of Running
left-by_change : (now : ℕ) (change : Change) (job : JobRecord) → IsNoStart now change
    → used_when_left now job (changed change job) ≡ used_by_change change job
unfolding used_when_left used_by_change
left-by_change now (Start moment parts nodes) job never = absurd never
left-by_change now (Leave final moment exit) job at =
    rw at (by (is_running job.state) refl)
  where
    by : (runs : Bool) → is_running job.state ≡ runs
        → cond (is_running job.state && not (is_running (changed (Leave final now exit) job).state)) (used_by now job) 0
        ≡ cond (is_running job.state) (used_by now job) 0
    by false is = rw is refl
    by true is = rw is refl
left-by_change now (CancelPending moment) job none = on (is_pending job.state) job.state refl refl
  where
    on : (waits : Bool) (state : JobState) → job.state ≡ state → is_pending job.state ≡ waits
        → cond (is_running job.state && not (is_running (changed (CancelPending moment) job).state)) (used_by now job) 0 ≡ 0
    on waits Pending is w = rw is refl
    on waits Running is w = rw is refl
    on waits (Completing final) is w = rw is refl
    on waits (Ended final) is w = rw is refl
left-by_change now CancelRequeue job none = on job.state refl
  where
    on : (state : JobState) → job.state ≡ state
        → cond (is_running job.state && not (is_running (not_again job job.state).state)) (used_by now job) 0 ≡ 0
    on Pending is = rw is refl
    on Running is = rw is refl
    on (Completing final) is = rw is refl
    on (Ended final) is = rw is refl
left-by_change now (DropPart node moment) job none = on job.state refl
  where
    on : (state : JobState) → job.state ≡ state
        → cond (is_running job.state && not (is_running (off_node moment node job job.state).state)) (used_by now job) 0 ≡ 0
    on Pending is = rw is refl
    on Running is = rw is refl
    on (Completing final) is = rw is refl
    on (Ended final) is = rw is refl
left-by_change now (SetHold by) job none = not-left (is_running job.state) (used_by now job)
left-by_change now (SetLimit limit) job none = not-left (is_running job.state) (used_by now job)
left-by_change now (SetNice nice) job none = not-left (is_running job.state) (used_by now job)

each-same : (now : ℕ) (jobs : List JobRecord) → AllZip (RunsOn now) jobs jobs
each-same now [] = tt
each-same now (job ∷ jobs) = (runs_on-same now job, each-same now jobs)

each-twice : (now : ℕ) (xs ys zs : List JobRecord) → AllZip (RunsOn now) xs ys → AllZip (RunsOn now) ys zs
    → AllZip (RunsOn now) xs zs
each-twice now [] [] [] first second = tt
each-twice now [] [] (z ∷ zs) first second = second
each-twice now [] (y ∷ ys) zs first second = absurd first
each-twice now (x ∷ xs) [] zs first second = absurd first
each-twice now (x ∷ xs) (y ∷ ys) [] first second = absurd second
each-twice now (a ∷ xs) (b ∷ ys) (d ∷ zs) first second =
    (runs_on-twice now a b d first.0 second.0, each-twice now xs ys zs first.1 second.1)

-- the jobs once the one at a place has changed
each-at : (now place : ℕ) (f : JobRecord → JobRecord) (jobs : List JobRecord) → ((job : JobRecord) → RunsOn now job (f job))
    → AllZip (RunsOn now) jobs (map_at place f jobs)
each-at now place f [] on = tt
each-at now zero f (job ∷ jobs) on = (on job, each-same now jobs)
each-at now (suc place) f (job ∷ jobs) on = (runs_on-same now job, each-at now place f jobs on)

-- what it adds to the associations
used-at : (now place : ℕ) (f : JobRecord → JobRecord) (jobs : List JobRecord) (job : JobRecord) → slice_get jobs place ≡ Some job
    → (p : ℕ) → used_of now jobs (map_at place f jobs) p ≡ cond (nat_eq job.assoc p) (used_when_left now job (f job)) 0
unfolding used_of
used-at now place f [] job there p = absurd (none-some (slice_get [] place) job refl there)
used-at now zero f (one ∷ jobs) job there p =
    let same : one ≡ job = some-injective there in
    let rest = used-none now p jobs in
    rw (sym same) (omega (arith, rest, sum_by-cons (λ (each : JobRecord × JobRecord). adds now p each.0 each.1) (one, f one) (zip jobs jobs)))
used-at now (suc place) f (one ∷ jobs) job there p =
    let rest = used-at now place f jobs job there p in
    let nothing = adds-none now p one in
    omega (arith, rest, nothing, sum_by-cons (λ (each : JobRecord × JobRecord). adds now p each.0 each.1) (one, one) (zip jobs (map_at place f jobs)))

used-off : (now place : ℕ) (f : JobRecord → JobRecord) (jobs : List JobRecord) → slice_get jobs place ≡ None
    → map_at place f jobs ≡ jobs
used-off now place f [] none = refl
used-off now zero f (one ∷ jobs) none = absurd (none-some (slice_get (one ∷ jobs) zero) one none refl)
used-off now (suc place) f (one ∷ jobs) none = ap (λ rest. one ∷ rest) (used-off now place f jobs none)

pub Charges-nothing : (now : ℕ) (jobs : JobsView) → Charges now jobs jobs
unfolding charged
Charges-nothing now jobs = record {
  each = each-same now jobs.records;
  usage = sym (charged-nothing (used_of now jobs.records jobs.records) 0 jobs.usage (λ p above. used-none now p jobs.records));
}

pub Charges-on : (now : ℕ) (old middle new : JobsView) → Charges now old middle → Charges now middle new → Charges now old new
unfolding charged
Charges-on now old middle new first second = record {
  each = each-twice now old.records middle.records new.records first.each second.each;
  usage = second.usage
      ∙ ap (charged now middle.records new.records) first.usage
      ∙ charged-twice (used_of now old.records middle.records) (used_of now middle.records new.records)
      (used_of now old.records new.records) 0 old.usage
      (λ p. used-twice now p old.records middle.records new.records first.each second.each);
}

-- a change of the job at a place charges as it should
pub Charges-at : (now place : ℕ) (change : Change) (jobs : List JobRecord) (usage : List ℕ) → IsNoStart now change
    → Charges now (record { records = jobs; usage = usage })
    (record { records = map_at place (changed change) jobs; usage = charged_by change (slice_get jobs place) usage })
unfolding charged charged_by
Charges-at now place change jobs usage none = record {
  each = each-at now place (changed change) jobs (λ job. changed-runs_on now change job none);
  usage = sym (by (slice_get jobs place) refl);
}
  where
    by : (found : Option JobRecord) → slice_get jobs place ≡ found
        → charged now jobs (map_at place (changed change) jobs) usage ≡ charged_by change (slice_get jobs place) usage
    by None is = rw (is, used-off now place (changed change) jobs is)
        (charged-nothing (used_of now jobs jobs) 0 usage (λ p above. used-none now p jobs))
    by (Some job) is = rw is
        (charged-at (used_of now jobs (map_at place (changed change) jobs)) 0 job.assoc (used_by_change change job) usage
        (λ p. used-at now place (changed change) jobs job is p
        ∙ ap (λ used. cond (nat_eq job.assoc p) used 0) (left-by_change now change job none)
        ∙ ap (λ k. cond (nat_eq k p) (used_by_change change job) 0) (sym (zero-add job.assoc))))

-- where a count of a machine's word stands still
abbrev pub most : ℕ
most = 2 ^ 64 - 1

-- a count that stands still, times seconds
pub times-bounded : (count seconds : ℕ) → min (min count most * seconds) most ≡ min (count * seconds) most
times-bounded count zero = rw (mul-zero count, mul-zero (min count most)) refl
times-bounded count (suc seconds) =
    let wide = le-mul_of_pos_right {m = suc seconds} count (omega arith) in
    let low = le-mul_of_pos_right {m = suc seconds} most (omega arith) in
    elim (cases_lt most count) [
      | inl above ↦
          let is : min count most ≡ most = omega (arith, above) in
          rw is (omega (arith, above, wide, low))
      | inr within ↦
          let is : min count most ≡ count = omega (arith, within) in
          rw is refl
    ]

pub grown-bounded : (total more : ℕ) → grown total (min more (2 ^ 64 - 1)) ≡ grown total more
grown-bounded total more = grind (arith, nat_tests)

-- a total that a machine's word holds
pub grown-stored : (total more : ℕ) → (more ≡ 0 → ⊥) → min (min (total + more) (2 ^ 64 - 1)) 4_294_967_295 ≡ grown total more
grown-stored total more some = grind (arith, nat_tests)

pub grown-none : (place : ℕ) (totals : List ℕ) → totals ≡ map_at place (λ total. grown total 0) totals
grown-none place [] = refl
grown-none zero (total ∷ totals) = refl
grown-none (suc place) (total ∷ totals) = ap (λ rest. total ∷ rest) (grown-none place totals)

pub grown-off : (f : ℕ → ℕ) (place : ℕ) (totals : List ℕ) → length totals ≤ place → totals ≡ map_at place f totals
grown-off f place [] off = refl
grown-off f zero (total ∷ totals) off = absurd (omega (arith, off))
grown-off f (suc place) (total ∷ totals) off = ap (λ rest. total ∷ rest) (grown-off f place totals (omega (arith, off)))

pub grown-on : (f : ℕ → ℕ) (place total : ℕ) (totals : List ℕ) → place < length totals → total ≡ get_or totals place 0
    → slice_set totals place (f total) ≡ map_at place f totals
grown-on f place total [] on is = absurd (omega (arith, on))
grown-on f zero total (one ∷ totals) on is = rw is refl
grown-on f (suc place) total (one ∷ totals) on is =
    ap (λ rest. one ∷ rest) (grown-on f place total totals (omega (arith, on)) is)

pub grown-words : (place more : ℕ) (totals : List ℕ)
    → map_at place (λ total. grown total (min more (2 ^ 64 - 1))) totals ≡ map_at place (λ total. grown total more) totals
grown-words place more [] = refl
grown-words zero more (total ∷ totals) = ap (λ head. head ∷ totals) (grown-bounded total more)
grown-words (suc place) more (total ∷ totals) = ap (λ rest. total ∷ rest) (grown-words place more totals)

pub start-charges : (change : Change) (job : JobRecord) (totals : List ℕ) → is_start change ≡ true
    → charged_by change (Some job) totals ≡ totals
unfolding charged_by used_by_change
start-charges (Start moment parts nodes) job totals is = sym (grown-none job.assoc totals)
start-charges (Leave final moment exit) job totals is = absurd (true≢false (sym is))
start-charges (CancelPending moment) job totals is = absurd (true≢false (sym is))
start-charges CancelRequeue job totals is = absurd (true≢false (sym is))
start-charges (DropPart node moment) job totals is = absurd (true≢false (sym is))
start-charges (SetHold by) job totals is = absurd (true≢false (sym is))
start-charges (SetLimit limit) job totals is = absurd (true≢false (sym is))
start-charges (SetNice nice) job totals is = absurd (true≢false (sym is))
