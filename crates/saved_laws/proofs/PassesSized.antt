-- A pass, whatever the sum of sizes.
use Rattle.std.proofs.Common.{ℕ, ◌≡◌, ◌∙◌, ◌+◌, Bool, ◌&&◌, not, List, [], ◌∷◌, ◌++◌, length, map, filter, flat_map, unwrap_or, Option, Some, None, option_map, if◌then◌else◌, refl, ap, nat_eq}
use Rattle.std.specs.Prelude.{count_by, find}
use Rattle.small_texts.specs.Options.{◌>>=◌}
use Rattle.resource_profile.specs.declared.Hold.{Hold}
use Rattle.reply_data.specs.declared.reply.Reply.TheVariants.{Passed}
use Rattle.backfill_planner.specs.declared.Placed.{Placed}
use Rattle.backfill_planner.specs.declared.job.PlanJob.{PlanJob}
use Rattle.backfill_planner.specs.Going.{victims_of}
use Rattle.job_table.specs.declared.record.JobRecord.{JobRecord}
use Rattle.job_table.specs.Table.{job_with}
use Rattle.ctl_state.specs.Events.{become}
use Rattle.ctl_state.specs.Planning.{room_of}
use Rattle.ctl_state.specs.State.{State}
use Rattle.ctl_state.specs.Verdicts.{Verdict, Stays, Makes}
use Rattle.ctl_pass.specs.Limits.{holds_of_job, is_over}
use Rattle.ctl_pass.specs.Naming.{preempts_at_all}
use Rattle.ctl_pass.specs.Passing.{is_idle, jobs_ended, outcome, pass_after, placements_due}
use Rattle.ctl_pass.specs.Preempting.{first_waiting, gone_for, ids_at, is_among, is_lower, places_gone, preemptable, preempted, preemptor, start_holds, stays, staying_holds, victims_in}
use Rattle.ctl_pass.specs.Readiness.{base_of, jobs_left, placements, planned, ready}
use Rattle.ctl_pass.specs.Starting.{Started, begun, begun_by, due, may_start, start_of, started}
use Rattle.ctl_waiting.specs.Candidates.{ranked}
use Rattle.ctl_waiting.specs.FairShare.{rank_at, user_count, user_usage}
use Rattle.ctl_waiting.specs.Priority.{all_cpus, greatest_factor, greatest_qos, parts_of}
use Rattle.ctl_waiting.specs.Rank.{is_higher}
use Rattle.ctl_waiting.specs.Usage.{usage_at}
use Rattle.ctl_node_side.specs.Passes.{after_pass, ended_by_pass, made_by_pass, pass_is_idle}
use Rattle.ctl_node_side.specs.Silence.{any_silent, failing_count, silenced, without_silent}
use Rattle.saved_laws.specs.Rooms.{sized}
use Rattle.saved_laws.proofs.RankingSized.{ranked_sized}
use Rattle.saved_laws.proofs.Resized.{chosen_sized, sized_by, staying_sized}

silenced-sized : (size : ℕ) (s : State) (now : ℕ) → silenced (sized size s) now ≡ sized size (silenced s now)
silenced-sized size s now = chosen_sized size (any_silent s now) (without_silent s now) s

planned-sized : (size : ℕ) (s : State) (now : ℕ) → planned (sized size s) now ≡ planned s now
unfolding planned base_of
planned-sized size s now = rw (ranked_sized size s now)

placements-sized : (size : ℕ) (s : State) (now : ℕ) → placements (sized size s) now ≡ placements s now
placements-sized size s now = planned-sized size (ready s now) now

may-start-sized : (size : ℕ) (s : State) → may_start (sized size s) ≡ may_start s
unfolding may_start
may-start-sized size s = refl

-- the placements stays they start, one after another
started-sized : (size : ℕ) (s : State) (now : ℕ) (jobs : List JobRecord) (plan : List Placed)
    → started (sized size s) now jobs plan ≡ started s now jobs plan
unfolding started may_start
started-sized size s now jobs [] = refl
started-sized size s now jobs (placed ∷ later) =
    let start = start_of s.nodes jobs placed in
    ap (λ (rest : Started).
    if nat_eq placed.start now && may_start s jobs placed.id
    then record rest { starts = start ∷ rest.starts }
    else (let rest = started (sized size s) now jobs later in record rest { stays = placed ∷ rest.stays }))
    (started-sized size s now (begun now jobs start) later)
    ∙ ap (λ (rest : Started).
    if nat_eq placed.start now && may_start s jobs placed.id
    then (let rest = started s now (begun now jobs start) later in record rest { starts = start ∷ rest.starts })
    else record rest { stays = placed ∷ rest.stays })
    (started-sized size s now jobs later)

outcome-sized : (size : ℕ) (s : State) (now : ℕ) → outcome (sized size s) now ≡ outcome s now
outcome-sized size s now =
    started-sized size s now (jobs_left s now) (placements (sized size s) now)
    ∙ ap (started s now (jobs_left s now)) (placements-sized size s now)

-- so the same placements start
due-sized : (size : ℕ) (s : State) (now : ℕ) (jobs : List JobRecord) (plan : List Placed)
    → due (sized size s) now jobs plan ≡ due s now jobs plan
unfolding due may_start
due-sized size s now jobs [] = refl
due-sized size s now jobs (placed ∷ later) =
    ap (λ (rest : List Placed).
    if nat_eq placed.start now && may_start s jobs placed.id then placed ∷ rest else due (sized size s) now jobs later)
    (due-sized size s now (begun_by s.nodes now jobs placed) later)
    ∙ ap (λ (rest : List Placed).
    if nat_eq placed.start now && may_start s jobs placed.id
    then placed ∷ due s now (begun_by s.nodes now jobs placed) later
    else rest)
    (due-sized size s now jobs later)

placements-due-sized : (size : ℕ) (s : State) (now : ℕ) → placements_due (sized size s) now ≡ placements_due s now
placements-due-sized size s now =
    due-sized size s now (jobs_left s now) (placements (sized size s) now)
    ∙ ap (due s now (jobs_left s now)) (placements-sized size s now)

-- the same jobs might go for one, and the same stay
preemptable-sized : (size : ℕ) (s : State) (now : ℕ) → preemptable (sized size s) now ≡ preemptable s now
unfolding preemptable is_lower is_higher parts_of rank_at user_usage usage_at user_count all_cpus greatest_factor greatest_qos
preemptable-sized size s now = refl

staying-sized : (size : ℕ) (s : State) (now : ℕ) (high : JobRecord)
    → staying_holds (sized size s) now high ≡ staying_holds s now high
unfolding staying_holds is_lower is_higher parts_of rank_at user_usage usage_at user_count all_cpus greatest_factor greatest_qos
staying-sized size s now high =
    ap (λ (some : List Placed). flat_map (holds_of_job now) (filter (stays s now high) s.jobs)
    ++ flat_map (start_holds s.jobs) some) (placements-due-sized size s now)

places-sized : (size : ℕ) (s : State) (now : ℕ) (need : PlanJob) (high : JobRecord)
    → places_gone (sized size s) now need high ≡ places_gone s now need high
unfolding places_gone
places-sized size s now need high =
    ap (λ (holds : List Hold). victims_of (map room_of s.nodes) holds
    (map (holds_of_job now) (preemptable (sized size s) now high)) need now) (staying-sized size s now high)
    ∙ ap (λ (might : JobRecord → List JobRecord). victims_of (map room_of s.nodes) (staying_holds s now high)
    (map (holds_of_job now) (might high)) need now) (preemptable-sized size s now)

gone-sized : (size : ℕ) (s : State) (now : ℕ) (need : PlanJob) (high : JobRecord)
    → gone_for (sized size s) now need high ≡ gone_for s now need high
unfolding gone_for
gone-sized size s now need high =
    ap (λ (places : Option (List ℕ)). unwrap_or (option_map (ids_at (preemptable (sized size s) now high)) places) [])
    (places-sized size s now need high)
    ∙ ap (λ (might : JobRecord → List JobRecord).
    unwrap_or (option_map (ids_at (might high)) (places_gone s now need high)) []) (preemptable-sized size s now)

first-waiting-sized : (size : ℕ) (s : State) (now : ℕ) → first_waiting (sized size s) now ≡ first_waiting s now
unfolding first_waiting
first-waiting-sized size s now =
    ap (λ (some : List Placed). find (λ need. not (is_among some need)) (ranked (ready (sized size s) now) now))
    (placements-due-sized size s now)
    ∙ ap (find (λ need. not (is_among (placements_due s now) need))) (ranked_sized size (ready s now) now)

preemptor-sized : (size : ℕ) (s : State) (now : ℕ) → preemptor (sized size s) now ≡ preemptor s now
unfolding preemptor may_start
preemptor-sized size s now =
    ap (λ (some : Option PlanJob). (if preempts_at_all s.settings then some else None) >>= λ need.
    if may_start s (outcome (sized size s) now).jobs need.id then Some need else None) (first-waiting-sized size s now)
    ∙ ap (λ (out : Started). (if preempts_at_all s.settings then first_waiting s now else None) >>= λ need.
    if may_start s out.jobs need.id then Some need else None) (outcome-sized size s now)

victims-sized : (size : ℕ) (s : State) (now : ℕ) → victims_in (sized size s) now ≡ victims_in s now
unfolding victims_in
victims-sized size s now =
    ap (λ (some : Option PlanJob). unwrap_or (some >>= λ need. job_with need.id s.jobs >>= λ high.
    Some (gone_for (sized size s) now need high)) []) (preemptor-sized size s now)
    ∙ by (preemptor s now)
  where
    by_job : (need : PlanJob) (found : Option JobRecord)
        → unwrap_or (found >>= λ high. Some (gone_for (sized size s) now need high)) []
        ≡ unwrap_or (found >>= λ high. Some (gone_for s now need high)) []
    by_job need None = refl
    by_job need (Some high) = gone-sized size s now need high

    by : (some : Option PlanJob)
        → unwrap_or (some >>= λ need. job_with need.id s.jobs >>= λ high. Some (gone_for (sized size s) now need high)) []
        ≡ unwrap_or (some >>= λ need. job_with need.id s.jobs >>= λ high. Some (gone_for s now need high)) []
    by None = refl
    by (Some need) = by_job need (job_with need.id s.jobs)

pass-after-sized : (size : ℕ) (s : State) (now : ℕ) → pass_after (sized size s) now ≡ sized size (pass_after s now)
pass-after-sized size s now =
    let begun : Started → State = λ out. record (ready (sized size s) now) { jobs = out.jobs; plan = out.stays } in
    ap (λ (gone : List ℕ). let out = outcome (sized size s) now in
    become now (map (preempted now gone) out.jobs) (begun out)) (victims-sized size s now)
    ∙ ap (λ (out : Started). become now (map (preempted now (victims_in s now)) out.jobs) (begun out))
    (outcome-sized size s now)

jobs-ended-sized : (size : ℕ) (s : State) (now : ℕ) → jobs_ended (sized size s) now ≡ jobs_ended s now
jobs-ended-sized size s now =
    ap (λ (gone : List ℕ). count_by (is_over now) s.jobs + length gone) (victims-sized size s now)

is-idle-sized : (size : ℕ) (s : State) (now : ℕ) → is_idle (sized size s) now ≡ is_idle s now
unfolding is_idle
is-idle-sized size s now = rw (victims-sized size s now, outcome-sized size s now)

after-pass-sized : (size : ℕ) (s : State) (now : ℕ) → after_pass (sized size s) now ≡ sized size (after_pass s now)
after-pass-sized size s now =
    ap (λ (t : State). pass_after t now) (silenced-sized size s now) ∙ pass-after-sized size (silenced s now) now

-- what a pass makes of these
abbrev made-of : Bool → ℕ → Started → State → Verdict
made-of idle ended out after =
    if idle then Stays else Makes (Passed ended (length out.starts) (length out.stays)) after

pub made_by_pass_sized : (size : ℕ) (s : State) (now : ℕ)
    → made_by_pass (sized size s) now ≡ sized_by size (made_by_pass s now)
made_by_pass_sized size s now =
    let t = sized size s in
    let quiet = silenced-sized size s now in
    let idle : pass_is_idle t now ≡ pass_is_idle s now =
    ap (λ (u : State). not (any_silent s now) && is_idle u now) quiet
    ∙ ap (λ (idle : Bool). not (any_silent s now) && idle) (is-idle-sized size (silenced s now) now) in
    let ended : ended_by_pass t now ≡ ended_by_pass s now =
    ap (λ (u : State). failing_count s now + jobs_ended u now) quiet
    ∙ ap (λ (n : ℕ). failing_count s now + n) (jobs-ended-sized size (silenced s now) now) in
    let out : outcome (silenced t now) now ≡ outcome (silenced s now) now =
    ap (λ (u : State). outcome u now) quiet ∙ outcome-sized size (silenced s now) now in
    let after = after-pass-sized size s now in
    ap (λ (b : Bool). made-of b (ended_by_pass t now) (outcome (silenced t now) now) (after_pass t now)) idle
    ∙ ap (λ (n : ℕ). made-of (pass_is_idle s now) n (outcome (silenced t now) now) (after_pass t now)) ended
    ∙ ap (λ (o : Started). made-of (pass_is_idle s now) (ended_by_pass s now) o (after_pass t now)) out
    ∙ ap (made-of (pass_is_idle s now) (ended_by_pass s now) (outcome (silenced s now) now)) after
    ∙ staying_sized size (pass_is_idle s now)
    (Passed (ended_by_pass s now) (length (outcome (silenced s now) now).starts) (length (outcome (silenced s now) now).stays))
    (after_pass s now)
