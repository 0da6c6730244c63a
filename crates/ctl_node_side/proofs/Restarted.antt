-- Reports of daemons that were restarted.
use Rattle.std.proofs.Common.{ℕ, ◌≡◌, ◌≤◌, ◌∙◌, true, false, cond, nat_eq, List, [], All, sym, ap, arith, inl, inr}
use Rattle.std.proofs.lemmas.Bool.{cases_Bool, cond-false, cond-true, cond_both}
use Rattle.request_data.specs.declared.report.Report.{Report as Told}
use Rattle.job_table.specs.declared.record.JobRecord.{JobRecord}
use Rattle.job_table.specs.declared.record.Part.{Part}
use Rattle.ctl_state.specs.Holding.{parts_of}
use Rattle.ctl_state.specs.Soundness.{IsSound}
use Rattle.ctl_state.specs.State.{State, last_moment}
use Rattle.ctl_state.specs.Verdicts.{stamped}
use Rattle.ctl_nodes.specs.Failing.{lost_after}
use Rattle.ctl_node_side.specs.Answering.{is_restarted}
use Rattle.ctl_node_side.specs.Ordering.{orders_of}
use Rattle.ctl_node_side.specs.Reporting.{report_after}
use Rattle.ctl_node_side.specs.Restarting.{met}
use Rattle.ctl_node_side.proofs.Silent.{LosingFrees, LosingKeeps}

pub met_some : (s : State) (now node : ℕ) (report : Told) → is_restarted s report ≡ true
    → met s now node report ≡ stamped now (lost_after s now (nat_eq node))
met_some s now node report some = cond-true (is_restarted s report) _ s some

pub met_none : (s : State) (now node : ℕ) (report : Told) → is_restarted s report ≡ false
    → met s now node report ≡ s
met_none s now node report none = cond-false (is_restarted s report) _ s none

abbrev pub OrderedAlike : Type 0
OrderedAlike = (jobs : List JobRecord) (now node : ℕ) (report : Told)
    → All (λ (part : Part). nat_eq node part.node ≡ false) (parts_of jobs)
    → orders_of jobs now node report ≡ orders_of [] now node report

-- where the daemon was restarted, it is answered as where there are no jobs
pub restarted_orders : OrderedAlike → LosingFrees → (s : State) (now node : ℕ) (report : Told) → IsSound s
    → is_restarted s report ≡ true
    → orders_of [] now node report ≡ orders_of (met s now node report).jobs now node report
restarted_orders alike frees s now node report sound some =
    sym (ap (λ (t : State). orders_of t.jobs now node report) (met_some s now node report some)
    ∙ alike (lost_after s now (nat_eq node)).jobs now node report (frees s now (nat_eq node) sound))

-- so it is answered by the jobs in whose midst its report is worked
pub orders_met : OrderedAlike → LosingFrees → (s : State) (now node : ℕ) (report : Told) → IsSound s
    → orders_of (cond (is_restarted s report) [] s.jobs) now node report
    ≡ orders_of (met s now node report).jobs now node report
orders_met alike frees s now node report sound = elim (cases_Bool (is_restarted s report)) [
  | inl some ↦
      ap (λ jobs. orders_of jobs now node report) (cond-true (is_restarted s report) [] s.jobs some)
      ∙ restarted_orders alike frees s now node report sound some
  | inr none ↦
      ap (λ jobs. orders_of jobs now node report)
      (cond-false (is_restarted s report) [] s.jobs none
      ∙ sym (ap (λ (t : State). t.jobs) (met_none s now node report none)))
]

abbrev pub ReportsKeep : Type 0
ReportsKeep = (s : State) (now node : ℕ) (report : Told) → IsSound s → s.moment ≤ now → now ≤ last_moment
    → IsSound (stamped now (report_after s now node report))

pub sound_met : LosingKeeps → (s : State) (now node : ℕ) (report : Told)
    → IsSound s → s.moment ≤ now → now ≤ last_moment → IsSound (met s now node report)
sound_met keeps s now node report sound raised in_time =
    cond_both (is_restarted s report) _ s IsSound (λ some. keeps s now (nat_eq node) sound raised in_time) (λ none. sound)

pub met_raised : (s : State) (now node : ℕ) (report : Told) → s.moment ≤ now
    → (met s now node report).moment ≤ now
met_raised s now node report raised =
    cond_both (is_restarted s report) _ s (λ (t : State). t.moment ≤ now) (λ some. omega arith) (λ none. raised)

pub sound_reported : LosingKeeps → ReportsKeep → (s : State) (now node : ℕ) (report : Told)
    → IsSound s → s.moment ≤ now → now ≤ last_moment
    → IsSound (stamped now (report_after (met s now node report) now node report))
sound_reported keeps reports s now node report sound raised in_time =
    reports (met s now node report) now node report (sound_met keeps s now node report sound raised in_time)
    (met_raised s now node report raised) in_time
