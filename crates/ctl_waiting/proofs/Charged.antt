-- What associations have used stays while jobs leave Running and are gone.
use Rattle.std.proofs.Common.{◌≡◌, ℕ, zero, suc, ◌+◌, ◌-◌, ◌^◌, ◌<◌, ◌≤◌, Bool, true, false, ◌&&◌, not, cond, min, List, [], ◌∷◌, length, map, filter, take, get_or, nat_eq, slice_get, inl, inr, Option, None, Some, refl, sym, ap, ◌∙◌, arith, true≢false}
use Rattle.std.specs.Prelude.{All, option_map, unwrap_or}
use Rattle.std.specs.List.{AllWithin, AllZip, enumerate_from, zip}
use Rattle.std.proofs.lemmas.Bool.Decides.{nat_tests}
use Rattle.std.proofs.lemmas.List.{length-map, get_or-map, get_or_past, take_all}
use Rattle.std.proofs.lemmas.List.Elements.{All-head, All-tail}
use Rattle.std.proofs.lemmas.Option.{slice_get_cases}
use Rattle.std.proofs.lemmas.List.Sums.{sum_by-cons, sum_by_more}
use Rattle.job_table.specs.declared.record.JobRecord.{JobRecord}
use Rattle.request_data.specs.declared.state.JobState.{JobState}
use Rattle.request_data.specs.declared.state.JobState.TheVariants.{Pending, Running, Completing, Ended}
use Rattle.job_table.specs.JobStates.{is_holding, is_running}
use Rattle.job_table.specs.Usage.{RunsOn, charged, grown, greatest_usage, used_by, used_of, used_when_left}
use Rattle.ctl_waiting.specs.Usage.{running_usage, used_running}

-- what one job that becomes another uses, is charged with and goes on to use
one-left : (runs on : Bool) (used again : ℕ) → (on ≡ true → runs ≡ true) → (on ≡ true → again ≡ used)
    → cond runs used 0 ≡ cond (runs && not on) used 0 + cond on again 0
one-left false false used again ran same = refl
one-left false true used again ran same = absurd (true≢false (sym (ran refl)))
one-left true false used again ran same = omega arith
one-left true true used again ran same = omega (arith, same refl)

job-left : (now : ℕ) (job after : JobRecord) → RunsOn now job after
    → used_running now job ≡ used_when_left now job after + used_running now after
unfolding used_running used_when_left
job-left now job after on =
    one-left (is_running job.state) (is_running after.state) (used_by now job) (used_by now after) on.ran on.used

split-sum : (same : Bool) (x y z : ℕ) → x ≡ y + z → cond same x 0 ≡ cond same y 0 + cond same z 0
split-sum false x y z is = refl
split-sum true x y z is = is

-- what the running jobs of an association use
abbrev uses : ℕ → ℕ → JobRecord → ℕ
uses now place job = cond (nat_eq job.assoc place) (used_running now job) 0

-- what one job that becomes another adds to the association at a place
abbrev adds : ℕ → ℕ → JobRecord × JobRecord → ℕ
adds now place one = cond (nat_eq one.0.assoc place) (used_when_left now one.0 one.1) 0

place-left : (now place : ℕ) (job after : JobRecord) → RunsOn now job after
    → uses now place job ≡ adds now place (job, after) + uses now place after
place-left now place job after on =
    split-sum (nat_eq job.assoc place) (used_running now job) (used_when_left now job after) (used_running now after)
    (job-left now job after on)
    ∙ ap (λ who. adds now place (job, after) + cond (nat_eq who place) (used_running now after) 0) (sym on.assoc)

running-left : (now place : ℕ) (jobs after : List JobRecord) → AllZip (RunsOn now) jobs after
    → running_usage now jobs place ≡ used_of now jobs after place + running_usage now after place
unfolding used_of
running-left now place [] [] on = refl
running-left now place [] (y ∷ ys) on = absurd on
running-left now place (x ∷ xs) [] on = absurd on
running-left now place (x ∷ xs) (y ∷ ys) on =
    let here = place-left now place x y on.0 in
    let later = running-left now place xs ys on.1 in
    omega (
      arith,
      here,
      later,
      sum_by-cons (uses now place) x xs,
      sum_by-cons (uses now place) y ys,
      sum_by-cons (adds now place) (x, y) (zip xs ys),
    )

running-filter : (now place : ℕ) (goes : JobRecord → Bool) (jobs : List JobRecord)
    → All (λ (job : JobRecord). goes job ≡ true → is_running job.state ≡ false) jobs
    → running_usage now (filter (λ (job : JobRecord). not (goes job)) jobs) place ≡ running_usage now jobs place
unfolding used_running
running-filter now place goes [] idle = refl
running-filter now place goes (job ∷ jobs) idle =
    by_test (goes job)
    (All-head (λ (one : JobRecord). goes one ≡ true → is_running one.state ≡ false) job jobs idle)
    (filter (λ (one : JobRecord). not (goes one)) jobs)
    (running-filter now place goes jobs (All-tail (λ (one : JobRecord). goes one ≡ true → is_running one.state ≡ false) job jobs idle))
  where
    nothing : (same : Bool) (used : ℕ) → cond same (cond false used 0) 0 ≡ 0
    nothing true used = refl
    nothing false used = refl

    by_test : (b : Bool) → (b ≡ true → is_running job.state ≡ false) → (rest : List JobRecord)
        → running_usage now rest place ≡ running_usage now jobs place
        → running_usage now (cond (not b) (job ∷ rest) rest) place ≡ running_usage now (job ∷ jobs) place
    by_test true stops rest same =
        let none : uses now place job ≡ 0 = rw (stops refl) (nothing (nat_eq job.assoc place) (used_by now job)) in
        omega (arith, same, none, sum_by-cons (uses now place) job jobs)
    by_test false stops rest same =
        omega (arith, same, sum_by-cons (uses now place) job jobs, sum_by-cons (uses now place) job rest)

-- the total at a place, once each has grown
charged-at : (by : ℕ → ℕ) (n place : ℕ) (totals : List ℕ)
    → slice_get (map (λ (one : ℕ × ℕ). grown one.1 (by one.0)) (enumerate_from n totals)) place
    ≡ option_map (λ total. grown total (by (n + place))) (slice_get totals place)
charged-at by n place [] = refl
charged-at by n zero (total ∷ totals) =
    let same : n ≡ n + zero = omega arith in
    ap (λ k. Some (grown total (by k))) same
charged-at by n (suc place) (total ∷ totals) =
    let same : n + 1 + place ≡ n + suc place = omega arith in
    charged-at by (n + 1) place totals
    ∙ ap (λ k. option_map (λ total. grown total (by k)) (slice_get totals place)) same

grown-same : (total more rest : ℕ) → min (grown total more + rest) greatest_usage ≡ min (total + (more + rest)) greatest_usage
grown-same total more rest = grind (arith, nat_tests)

-- what the association at a place has used, by its total and by what its running jobs use
abbrev pub used_in : Option ℕ → ℕ → ℕ
used_in total running = unwrap_or (option_map (λ total. min (total + running) greatest_usage) total) 0

pub used_in-stays : (now place : ℕ) (goes : JobRecord → Bool) (jobs after : List JobRecord) (totals : List ℕ)
    → AllZip (RunsOn now) jobs after
    → All (λ (job : JobRecord). goes job ≡ true → is_running job.state ≡ false) after
    → used_in (slice_get (charged now jobs after totals) place)
    (running_usage now (filter (λ (job : JobRecord). not (goes job)) after) place)
    ≡ used_in (slice_get totals place) (running_usage now jobs place)
unfolding charged
used_in-stays now place goes jobs after totals on idle =
    let zero_more : 0 + place ≡ place = omega arith in
    rw (charged-at (used_of now jobs after) 0 place totals, zero_more, running-filter now place goes after idle, running-left now place jobs after on)
    (by_total (slice_get totals place))
  where
    by_total : (total : Option ℕ)
        → used_in (option_map (λ total. grown total (used_of now jobs after place)) total) (running_usage now after place)
        ≡ used_in total (used_of now jobs after place + running_usage now after place)
    by_total None = refl
    by_total (Some total) = grown-same total (used_of now jobs after place) (running_usage now after place)

pub running-none : (now place : ℕ) → running_usage now [] place ≡ 0
running-none now place = refl

-- who holds no processors doesn't run, and uses nothing
idle-rests : (state : JobState) → is_holding state ≡ false → is_running state ≡ false
idle-rests Pending idle = refl
idle-rests Running idle = absurd (true≢false idle)
idle-rests (Completing final) idle = refl
idle-rests (Ended final) idle = refl

idle-uses : (now place : ℕ) (job : JobRecord) → is_holding job.state ≡ false → uses now place job ≡ 0
unfolding used_running
idle-uses now place job idle =
    nothing (nat_eq job.assoc place) (is_running job.state) (used_by now job) (idle-rests job.state idle)
  where
    nothing : (same runs : Bool) (used : ℕ) → runs ≡ false → cond same (cond runs used zero) zero ≡ zero
    nothing false runs used rests = refl
    nothing true false used rests = refl
    nothing true true used rests = absurd (true≢false rests)

-- so jobs may be left out that hold none
pub running-gap : (now place from next : ℕ) (jobs : List JobRecord) → from ≤ next
    → AllWithin (λ (job : JobRecord). is_holding job.state ≡ false) jobs from next
    → running_usage now (take next jobs) place ≡ running_usage now (take from jobs) place
running-gap now place zero zero jobs less none = refl
running-gap now place zero (suc next) [] less none = refl
running-gap now place zero (suc next) (job ∷ jobs) less none =
    omega (
      arith,
      sum_by-cons (uses now place) job (take next jobs),
      idle-uses now place job (none 0 job (omega arith) (omega arith)),
      running-gap now place zero next jobs (omega arith)
          (λ k d low below. none (suc k) d (omega arith) (omega (arith, below))),
    )
running-gap now place (suc from) zero jobs less none = absurd (omega (arith, less))
running-gap now place (suc from) (suc next) [] less none = refl
running-gap now place (suc from) (suc next) (job ∷ jobs) less none =
    omega (
      arith,
      sum_by-cons (uses now place) job (take next jobs),
      sum_by-cons (uses now place) job (take from jobs),
      running-gap now place from next jobs (omega (arith, less))
          (λ k d low below. none (suc k) d (omega (arith, low)) (omega (arith, below))),
    )

pub running-rest : (now place from : ℕ) (jobs : List JobRecord) → from ≤ length jobs
    → AllWithin (λ (job : JobRecord). is_holding job.state ≡ false) jobs from (length jobs)
    → running_usage now (take from jobs) place ≡ running_usage now jobs place
running-rest now place from jobs within none =
    sym (running-gap now place from (length jobs) jobs within none)
    ∙ ap (λ some. running_usage now some place) (take_all (length jobs) jobs (omega arith))

-- one more job, where sums are cut at the greatest usage
pub running-more : (now place : ℕ) (jobs : List JobRecord) (i : ℕ) (job : JobRecord) → i < length jobs
    → job ≡ get_or jobs i job → (first was last more : ℕ)
    → was ≡ min (first + running_usage now (take i jobs) place) 4294967295
    → more ≡ min (used_running now job) (2 ^ 64 - 1)
    → last ≡ min (was + cond (nat_eq job.assoc place) more 0) 4294967295
    → last ≡ min (first + running_usage now (take (i + 1) jobs) place) 4294967295
running-more now place jobs i job low is first was last more before used after =
    by_test (nat_eq job.assoc place) (used_running now job) (running_usage now (take i jobs) place) _ was last more
    (rw (sym is) at (sum_by_more (uses now place) jobs i job low)) before used after
  where
    by_test : (same : Bool) (using rest next was last more : ℕ) → next ≡ rest + cond same using 0
        → was ≡ min (first + rest) 4294967295 → more ≡ min using (2 ^ 64 - 1)
        → last ≡ min (was + cond same more 0) 4294967295 → last ≡ min (first + next) 4294967295
    by_test true using rest next was last more is before used after = omega arith
    by_test false using rest next was last more is before used after = omega arith

pub capped-low : (totals : List ℕ) (at : ℕ) → get_or (map (λ total. min total 4294967295) totals) at 0 ≤ 4294967295
capped-low [] at = omega arith
capped-low (total ∷ totals) zero = omega arith
capped-low (total ∷ totals) (suc at) = capped-low totals at

-- what is found from the totals and the running jobs is what the associations have used
pub used_in-found : (totals capped last : List ℕ) (running : ℕ → ℕ) → capped ≡ map (λ total. min total 4294967295) totals
    → length last ≡ length capped
    → ((at : ℕ) → at < length capped → get_or last at 0 ≡ min (get_or capped at 0 + running at) 4294967295)
    → (place : ℕ) → get_or last place 0 ≡ used_in (slice_get totals place) (running place)
used_in-found totals capped last running is len each place =
    let cap : ℕ → ℕ = λ total. min total 4294967295 in
    let long : length capped ≡ length totals = ap length is ∙ length-map totals cap in
    elim (slice_get_cases totals place).1 [
      | inl found ↦
          let mapped : get_or capped place 0 ≡ min (get_or totals place found.0) 4294967295 =
          ap (λ l. get_or l place 0) is ∙ get_or-map cap totals place found.0 0 found.1 in
          rw found.2 (omega (arith, mapped, found.3, each place (omega (arith, long, found.1))))
      | inr behind ↦ rw behind.1 (get_or_past last place 0 (omega (arith, long, len, behind.0)))
    ]

pub used_in-low : (total : Option ℕ) (running : ℕ) → used_in total running ≤ 4294967295
used_in-low None running = omega arith
used_in-low (Some total) running = omega arith
