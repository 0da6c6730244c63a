-- The job with a number and the jobs that hold processors: what the first steps of a pass and a start leave of them.
use Rattle.std.proofs.lemmas.Bool.Decides.{nat_tests}
use Rattle.std.proofs.Common.{◌≡◌, ◌≢◌, ℕ, zero, suc, ◌<◌, Bool, true, List, [], ◌∷◌, ◌++◌, map, Any, Contains, Option, Some, None, refl, ap, sym, ◌∙◌, arith}
use Rattle.std.proofs.lemmas.Bool.{eq-eqb, ne_eqb}
use Rattle.job_table.specs.declared.record.JobRecord.{JobRecord}
use Rattle.job_table.specs.declared.record.Part.{Part}
use Rattle.job_table.specs.JobStates.{is_holding, is_pending}
use Rattle.job_table.specs.Table.{HaveRisingIds, job_with}
use Rattle.run_limits.specs.declared.record.AssocRecord.{AssocRecord}
use Rattle.run_limits.specs.declared.counted.Counted.{Counted}
use Rattle.run_limits.specs.declared.tally.Tally.{Tally}
use Rattle.run_limits.specs.Tallies.{HaveSameSums, Shows}
use Rattle.ctl_state.specs.Counted.{counted_of, holding}
use Rattle.ctl_state.specs.Events.{started_as, those_left, waits}
use Rattle.ctl_state.specs.Laws.{TakenCounts}
use Rattle.ctl_state.specs.Soundness.{pending_ids}
use Rattle.ctl_pass.specs.Awaiting.{CountsOneMore}
use Rattle.ctl_pass.specs.Limits.{timed_out}
use Rattle.ctl_pass.proofs.Lists.{Any-kept, kept-left}
use Rattle.ctl_pass.proofs.Readied.{Going, by_limit, ended-others, running-holds, running-not_ended, timed_out-id}
use Rattle.list_lemmas.proofs.Pairs.{pairs-head, pairs-tail}

abbrev lower : JobRecord → JobRecord → Type 0
lower one other = one.id < other.id

-- where a number is that of a waiting job, the job with that number waits
pub waits-with : (id : ℕ) (jobs : List JobRecord) → HaveRisingIds jobs → Contains (pending_ids jobs) id
    → waits (job_with id jobs) ≡ true
waits-with id jobs rising has =
    by jobs rising (Any-kept (λ (job : JobRecord). job.id) (λ (job : JobRecord). is_pending job.state) id jobs has)
  where
    by : (some : List JobRecord) → HaveRisingIds some
        → Any (λ (job : JobRecord). (job.id ≡ id) × (is_pending job.state ≡ true)) some
        → waits (job_with id some) ≡ true
    by [] rises (k, job, inside, is, found) = absurd (omega (arith, inside))
    by (first ∷ later) rises (zero, job, inside, is, (here, pending)) =
        rw (eq-eqb first.id id (ap (λ (one : JobRecord). one.id) is ∙ here))
        (ap (λ (one : JobRecord). is_pending one.state) is ∙ pending)
    by (first ∷ later) rises (suc k, job, inside, is, (here, pending)) =
        let above = pairs-head lower first later rises k job (omega (arith, inside)) in
        rw (ne_eqb first.id id (λ same. omega (arith, above, same, here, ap (λ (one : JobRecord). one.id) is)))
        (by later (pairs-tail lower first later rises) (k, job, omega (arith, inside), is, (here, pending)))

-- a waiting job is left as it is by the first steps of a pass
pub with-left : (now id : ℕ) (test : JobRecord → Bool) (jobs : List JobRecord) → Going now test
    → waits (job_with id jobs) ≡ true
    → job_with id (those_left (timed_out now) test jobs) ≡ job_with id jobs
with-left now id test [] going has = refl
with-left now id test (job ∷ jobs) going has =
    grind (
      arith,
      nat_tests,
      with-left now id test jobs going,
      timed_out-id now job,
      going.same job,
      going.ended job,
      ended-others job.state,
      running-not_ended job.state,
    )

-- and by the start of another
pub with-begun : (now id other : ℕ) (parts : List Part) (names : List (List ℕ)) (jobs : List JobRecord) → id ≢ other
    → job_with other (map (started_as now id parts names) jobs) ≡ job_with other jobs
with-begun now id other parts names [] differ = refl
with-begun now id other parts names (job ∷ jobs) differ =
    grind (arith, nat_tests, with-begun now id other parts names jobs differ, differ)

timed_out-counted : (now : ℕ) (job : JobRecord) → counted_of (timed_out now job) ≡ counted_of job
timed_out-counted now job =
    by_limit (λ after. counted_of after ≡ counted_of job) now job (λ over running. refl) (λ within. refl)

timed_out-holding : (now : ℕ) (job : JobRecord) → is_holding (timed_out now job).state ≡ is_holding job.state
timed_out-holding now job =
    by_limit (λ after. is_holding after.state ≡ is_holding job.state) now job
    (λ over running. sym (running-holds job.state running)) (λ within. refl)

-- the first steps of a pass leave all jobs that hold processors
pub holding-left : (now : ℕ) (test : JobRecord → Bool) (jobs : List JobRecord) → Going now test
    → holding (those_left (timed_out now) test jobs) ≡ holding jobs
unfolding holding
holding-left now test jobs going =
    kept-left counted_of (λ (job : JobRecord). is_holding job.state) test (timed_out now) jobs
    (timed_out-counted now) (timed_out-holding now)
    (λ job gone. (ended-others job.state (going.ended job (sym (going.same job) ∙ gone))).1)

-- the laws of counting that a pass rests on
abbrev pub SumsShow : Type 0
SumsShow = (assocs : List AssocRecord) (tally : Tally) (some others : List Counted)
    → HaveSameSums some others → Shows assocs tally some → Shows assocs tally others

pub record CountLaws : Type 0 where
  pub taken : TakenCounts
  pub sums : SumsShow

-- a tally that shows one job more shows what jobs count of which that one starts
pub counted-begun : CountLaws → (assocs : List AssocRecord) (now id : ℕ) (parts : List Part) (names : List (List ℕ))
    (jobs : List JobRecord) (found : Option JobRecord) (before after : Tally)
    → HaveRisingIds jobs → job_with id jobs ≡ found → waits found ≡ true
    → Shows assocs before (holding jobs) → CountsOneMore assocs found before after
    → Shows assocs after (holding (map (started_as now id parts names) jobs))
counted-begun laws assocs now id parts names jobs None before after rising is has shows more =
    absurd (let never = has in cc)
counted-begun laws assocs now id parts names jobs (Some job) before after rising is has shows more =
    laws.sums assocs after (holding jobs ++ counted_of job ∷ []) (holding (map (started_as now id parts names) jobs))
    (laws.taken jobs now id parts names job rising is has) (more (holding jobs) shows)
