-- Jobs that hold nothing of a node may be left out.
use Rattle.std.proofs.Common.{ℕ, zero, suc, ◌≡◌, ◌∙◌, ◌+◌, ◌<◌, ◌≤◌, Bool, true, false, ◌&&◌, ◌||◌, not, cond, List, [], ◌∷◌, ◌++◌, length, map, take, get_or, Option, None, Some, refl, sym, ap, arith, true≢false}
use Rattle.std.specs.List.{AllWithin, filter, filter_map, find, list_any, cons_option}
use Rattle.std.proofs.lemmas.Bool.{cond_both}
use Rattle.std.proofs.lemmas.Bool.Decides.{nat_tests}
use Rattle.std.proofs.lemmas.List.{take_all, take_more}
use Rattle.std.proofs.lemmas.List.Elements.{filter-append, filter_agree}
use Rattle.std.proofs.lemmas.Option.{get_or_from_slice_get, slice_get-get_or}
use Rattle.reply_data.specs.declared.orders.Launch.{Launch}
use Rattle.request_data.specs.declared.report.Report.{Report}
use Rattle.request_data.specs.declared.report.Start.{Start}
use Rattle.job_table.specs.declared.record.JobRecord.{JobRecord}
use Rattle.job_table.specs.declared.record.Part.{Part}
use Rattle.job_table.specs.Changes.{is_on}
use Rattle.job_table.specs.Walks.{WalkKeepsRest, WalkLeavesOut, walked}
use Rattle.job_table.specs.JobStates.{is_running}
use Rattle.ctl_node_side.specs.Ordering.{killed, launch_of, orders_of, runs_start}
use Rattle.ctl_node_side.specs.Reporting.{is_at, is_last_start, reported}

-- a walk over a list of which those behind it stay as they were
pub gap-walked : {X : Type 0} → WalkLeavesOut X → WalkKeepsRest X → (f : X → X) (P : X → Type 0)
    → ((x : X) → P x → f x ≡ x) → (from next : ℕ) (xs ys : List X)
    → ys ≡ walked f from xs → from ≤ next → next ≤ length xs → AllWithin P ys from next
    → walked f next xs ≡ walked f from xs
gap-walked {X = X} leaves_out rest f P stays from next xs ys is less within all =
    leaves_out f from next xs less (λ k d low below. stays (get_or xs k d) (member k d low below))
  where
    member : (k : ℕ) (d : X) → from ≤ k → k < next → P (get_or xs k d)
    member k d low below =
        let there = rest f from k xs low ∙ slice_get-get_or xs k d (omega (arith, below, within)) in
        let same : get_or ys k d ≡ get_or xs k d =
        ap (λ all. get_or all k d) is ∙ get_or_from_slice_get (walked f from xs) k (get_or xs k d) d there in
        rw same at (all k d low below)

-- a filter that none of those that are left out passes
gap-filter : {X : Type 0} (p : X → Bool) (from next : ℕ) (xs : List X) → from ≤ next
    → AllWithin (λ x. p x ≡ false) xs from next → filter p (take next xs) ≡ filter p (take from xs)
gap-filter p zero zero xs less none = refl
gap-filter p zero (suc next) [] less none = refl
gap-filter p zero (suc next) (x ∷ xs) less none =
    let off : p x ≡ false = none 0 x (omega arith) (omega arith) in
    let rest = gap-filter p zero next xs (omega arith)
    (λ k d low below. none (suc k) d (omega arith) (omega (arith, below))) in
    ap (λ b. cond b (x ∷ filter p (take next xs)) (filter p (take next xs))) off ∙ rest
gap-filter p (suc from) zero xs less none = absurd (omega (arith, less))
gap-filter p (suc from) (suc next) [] less none = refl
gap-filter p (suc from) (suc next) (x ∷ xs) less none =
    ap (λ rest. cond (p x) (x ∷ rest) rest)
    (gap-filter p from next xs (omega (arith, less))
    (λ k d low below. none (suc k) d (omega (arith, low)) (omega (arith, below))))

pub filter-next : {X : Type 0} (p : X → Bool) (from next : ℕ) (xs : List X) (x : X) → from ≤ next → next < length xs
    → x ≡ get_or xs next x → AllWithin (λ y. p y ≡ false) xs from next
    → filter p (take (next + 1) xs) ≡ filter p (take from xs) ++ filter p (x ∷ [])
filter-next p from next xs x less inside is none =
    ap (filter p) (take_more xs next x inside)
    ∙ filter-append p (take next xs) (get_or xs next x ∷ [])
    ∙ ap (λ front. front ++ filter p (get_or xs next x ∷ [])) (gap-filter p from next xs less none)
    ∙ ap (λ y. filter p (take from xs) ++ filter p (y ∷ [])) (sym is)

pub filter-rest : {X : Type 0} (p : X → Bool) (from : ℕ) (xs : List X) → from ≤ length xs
    → AllWithin (λ y. p y ≡ false) xs from (length xs) → filter p (take from xs) ≡ filter p xs
filter-rest p from xs less none =
    sym (gap-filter p from (length xs) xs less none) ∙ ap (filter p) (take_all (length xs) xs (omega arith))

-- who holds nothing of the node runs nothing there, and is not launched
abbrev runs_first : ℕ → ℕ → Report → Start → JobRecord → Bool
runs_first now node report start job =
    let after = reported now node report job in
    is_last_start after start && (is_running after.state && is_at node after)

off-first : (now node : ℕ) (report : Report) (start : Start) (job : JobRecord) → is_at node job ≡ false
    → runs_first now node report start job ≡ false
off-first now node report start job none =
    let off : is_at node (reported now node report job) ≡ false = rw (none, none) refl in
    grind (arith, nat_tests)

none-found : (node : ℕ) (parts : List Part) → list_any (is_on node) parts ≡ false → find (is_on node) parts ≡ None
none-found node [] none = refl
none-found node (part ∷ parts) none = by (is_on node part) none (λ rest. none-found node parts rest)
  where
    by : (b : Bool) → (b || list_any (is_on node) parts) ≡ false
        → (list_any (is_on node) parts ≡ false → find (is_on node) parts ≡ None)
        → cond b (Some part) (find (is_on node) parts) ≡ None
    by true some later = absurd (true≢false some)
    by false rest later = later rest

none-launched : (node : ℕ) (report : Report) (job : JobRecord) → is_at node job ≡ false
    → launch_of node report job ≡ None
none-launched node report job none =
    rw (none-found node job.parts none) (cond_both _ None None (λ (o : Option Launch). o ≡ None) (λ h. refl) (λ h. refl))

runs-kept : (now node : ℕ) (report : Report) (start : Start) (jobs : List JobRecord)
    → runs_start node (map (reported now node report) (filter (is_at node) jobs)) start
    ≡ runs_start node (map (reported now node report) jobs) start
runs-kept now node report start [] = refl
runs-kept now node report start (job ∷ jobs) = by (is_at node job) refl (runs-kept now node report start jobs)
  where
    by : (b : Bool) → is_at node job ≡ b
        → runs_start node (map (reported now node report) (filter (is_at node) jobs)) start
        ≡ runs_start node (map (reported now node report) jobs) start
        → runs_start node (map (reported now node report) (cond b (job ∷ filter (is_at node) jobs) (filter (is_at node) jobs))) start
        ≡ (runs_first now node report start job || runs_start node (map (reported now node report) jobs) start)
    by true here rest = ap (λ later. runs_first now node report start job || later) rest
    by false off rest =
        rest
        ∙ sym (ap (λ first. first || runs_start node (map (reported now node report) jobs) start)
        (off-first now node report start job off))

launched-kept : (node : ℕ) (report : Report) (jobs : List JobRecord)
    → filter_map (launch_of node report) (filter (is_at node) jobs) ≡ filter_map (launch_of node report) jobs
launched-kept node report [] = refl
launched-kept node report (job ∷ jobs) = by (is_at node job) refl (launched-kept node report jobs)
  where
    by : (b : Bool) → is_at node job ≡ b
        → filter_map (launch_of node report) (filter (is_at node) jobs) ≡ filter_map (launch_of node report) jobs
        → filter_map (launch_of node report) (cond b (job ∷ filter (is_at node) jobs) (filter (is_at node) jobs))
        ≡ cons_option (launch_of node report job) (filter_map (launch_of node report) jobs)
    by true here rest = ap (cons_option (launch_of node report job)) rest
    by false off rest =
        rest
        ∙ sym (ap (λ one. cons_option one (filter_map (launch_of node report) jobs)) (none-launched node report job off))

-- so what a node is ordered rests on those that hold something of it
pub ordered-at : (jobs : List JobRecord) (now node : ℕ) (report : Report)
    → orders_of (filter (is_at node) jobs) now node report ≡ orders_of jobs now node report
unfolding orders_of
ordered-at jobs now node report =
    let kills : killed now node report (filter (is_at node) jobs) report.running
    ≡ killed now node report jobs report.running =
    filter_agree _ _ (λ start. ap not (runs-kept now node report start jobs)) report.running in
    rw (kills, launched-kept node report jobs) refl

pub ordered-met : (none : Bool) (jobs : List JobRecord) (now node : ℕ) (report : Report)
    → orders_of (cond none [] (filter (is_at node) jobs)) now node report
    ≡ orders_of (cond none [] jobs) now node report
ordered-met true jobs now node report = refl
ordered-met false jobs now node report = ordered-at jobs now node report
