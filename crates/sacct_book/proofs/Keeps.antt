-- Timelines go on telling what was used, by one more entry.
use Rattle.std.proofs.Common.{◌≡◌, ℕ, ◌+◌, ◌-◌, ◌*◌, ◌^◌, ◌≤◌, ◌<◌, min, Bool, true, false, cond, List, [], ◌∷◌, ◌++◌, length, map, get_or, Result, Ok, Err, OnOk, OnErr, refl, sym, ap, subst, ◌∙◌, arith, true≢false, zero-add}
use Rattle.std.proofs.Math.Nat.{mul-le-mul_left}
use Rattle.std.proofs.lemmas.List.{get_or-map, length-map}
use Rattle.ctl_state.specs.State.{State}
use Rattle.ctl_state.specs.Soundness.{IsSound}
use Rattle.ctl_state.specs.Verdicts.{left_by}
use Rattle.ctl_core.specs.Sizes.{size_of}
use Rattle.ctl_core.specs.Step.{entered, is_entered, raised, reply_of, state_after, verdict_of}
use Rattle.ctl_desk.specs.declared.entry.Entry.{Entry}
use Rattle.ctl_desk.specs.History.{History, IsLegal, IsStep, after_all, present}
use Rattle.ctl_desk.proofs.Entering.{after_all-push}
use Rattle.sacct_book.specs.declared.window.Window.{Window}
use Rattle.sacct_book.specs.declared.timeline.Timeline.{Timeline}
use Rattle.request_data.specs.declared.target.Target.{Target}
use Rattle.job_table.specs.declared.record.JobRecord.{JobRecord}
use Rattle.sacct_book.specs.declared.running.Way.TheVariants.{More, Fewer}
use Rattle.sacct_book.specs.Naming.{run_by_named, run_by_others}
use Rattle.sacct_book.specs.Running.{AreCounted, counted, cpus_run_by}
use Rattle.sacct_book.proofs.Named.{named-others}
use Rattle.sacct_book.specs.Times.{GoesOn, Times, begun, times_of, used_in}
use Rattle.sacct_book.specs.Windows.{seconds_in}
use Rattle.sacct_book.specs.Used.{used_at}
use Rattle.sacct_book.specs.Keeping.{AllGoOn, KeepsUse, TellsHeld}
use Rattle.sacct_book.proofs.Bounded.{running-few}
use Rattle.sacct_book.proofs.Going.{goes_on-same}
use Rattle.sacct_book.proofs.Overlap.{seconds_in-few}
use Rattle.sacct_book.proofs.Pushing.{used_at-none, used_at-push}

-- ---- the last entry

-- it is one that the controller makes then
pub last-step : (s : State) (es : List Entry) (e : Entry) → IsLegal s (es ++ e ∷ []) → IsStep (after_all s es) e
last-step s [] e legal = legal.0
last-step s (a ∷ es) e legal = last-step (state_after s a.moment a.user a.request) es e legal.1

moment-if : (b : Bool) (made stays : State) (moment : ℕ) → b ≡ true → made.moment ≡ moment
    → (cond b made stays).moment ≡ moment
moment-if true made stays moment is there = there
moment-if false made stays moment is there = absurd (true≢false (sym is))

-- the state after an entry bears its moment
step-moment : (s : State) (e : Entry) → IsStep s e → (state_after s e.moment e.user e.request).moment ≡ e.moment
step-moment s e step =
    let later : raised s e.moment ≡ e.moment = omega (arith, step.moment) in
    moment-if (is_entered (reply_of s e.moment e.user e.request))
    (entered (raised s e.moment) (size_of e.request) (left_by s (verdict_of s e.moment e.user e.request))) s e.moment
    (ap is_entered (sym step.reply) ∙ step.accepted) later

-- ---- timelines that go on

-- nothing that runs has changed
pub all_go_on-same : (s t : State) (moment : ℕ) (timelines : List Times) → TellsHeld s timelines → s.moment ≤ moment
    → ((place : ℕ) → cpus_run_by t.jobs place ≡ cpus_run_by s.jobs place) → AllGoOn moment t.jobs timelines timelines
all_go_on-same s t moment timelines tells later same = record {
  each = refl;
  goes = λ place d inside.
      goes_on-same (get_or timelines place d) (cpus_run_by t.jobs place) moment
      (tells.cpus place d inside ∙ sym (same place)) (omega (arith, tells.since place d inside, later));
}

mapped : (moment : ℕ) (cpus : ℕ → ℕ) (timelines timelines' : List Timeline) → length timelines' ≡ length timelines
    → ((place : ℕ) (d : Timeline) → place < length timelines
    → GoesOn moment (cpus place) (times_of (get_or timelines place d)) (times_of (get_or timelines' place d)))
    → (place : ℕ) (d : Times) → place < length timelines
    → GoesOn moment (cpus place) (get_or (map times_of timelines) place d) (get_or (map times_of timelines') place d)
mapped moment cpus [] timelines' each goes place d inside = absurd (omega (arith, inside))
mapped moment cpus (first ∷ later) timelines' each goes place d inside =
    rw (
      get_or-map times_of (first ∷ later) place first d inside,
      get_or-map times_of timelines' place first d (omega (arith, inside, each)),
    )
    (goes place first inside)

-- what runs was counted
pub all_go_on-counted : (jobs : List JobRecord) (moment : ℕ) (held : List ℕ) (timelines timelines' : List Timeline)
    → AreCounted jobs held → length held ≡ length timelines → length timelines' ≡ length timelines
    → ((place : ℕ) (d : Timeline) → place < length timelines
    → GoesOn moment (get_or held place 0) (times_of (get_or timelines place d)) (times_of (get_or timelines' place d)))
    → AllGoOn moment jobs (map times_of timelines) (map times_of timelines')
all_go_on-counted jobs moment held timelines timelines' are counts each goes =
    let long = length-map timelines times_of in
    record {
      each = length-map timelines' times_of ∙ each ∙ sym long;
      goes = λ place d inside.
          mapped moment (cpus_run_by jobs) timelines timelines' each
          (λ at first below.
          subst
          (λ (cpus : ℕ). GoesOn moment cpus (times_of (get_or timelines at first)) (times_of (get_or timelines' at first)))
          (are at (omega (arith, below, counts))) (goes at first below))
          place d (omega (arith, inside, long));
    }

-- all were counted
pub counted-all : (s : State) (jobs : List JobRecord) (held : List ℕ) → IsSound s → jobs ≡ s.jobs
    → ((at : ℕ) → at < length held → get_or held at 0 ≡ min (cpus_run_by jobs at) (2 ^ 64 - 1))
    → AreCounted s.jobs held
counted-all s jobs held sound same each = λ at inside.
    omega (
      arith,
      each at inside,
      ap (λ some. cpus_run_by some at) same,
      running-few s at sound,
    )

-- those were counted that are named, before and behind
pub counted-named : (s t : State) (targets : List Target) (held middle after : List ℕ) → IsSound t
    → AreCounted s.jobs held → length middle ≡ length held → length after ≡ length middle
    → ((at : ℕ) → run_by_others targets t.jobs at ≡ run_by_others targets s.jobs at)
    → ((at : ℕ) → at < length held
    → get_or middle at 0 ≡ counted Fewer (get_or held at 0) (run_by_named targets s.jobs at))
    → ((at : ℕ) → at < length middle
    → get_or after at 0 ≡ counted More (get_or middle at 0) (run_by_named targets t.jobs at))
    → AreCounted t.jobs after
counted-named s t targets held middle after sound was first second others fewer more = λ at inside.
    omega (
      arith,
      was at (omega (arith, inside, first, second)),
      fewer at (omega (arith, inside, first, second)),
      more at (omega (arith, inside, second)),
      others at,
      named-others targets s.jobs at,
      named-others targets t.jobs at,
      running-few t at sound,
    )

-- what follows of each answer follows
pub either-way : {X E : Type 0} (good bad made : Type 0) (result : Result X E) → OnOk result good → OnErr result bad
    → (good → made) → (bad → made) → made
either-way good bad made (Ok x) ok err from_ok from_err = from_ok ok
either-way good bad made (Err e) ok err from_ok from_err = from_err err

-- those that tell what was held have told it until now
pub since-mapped : (s : State) (moment : ℕ) (timelines : List Timeline) (told : List Times) → TellsHeld s told
    → map times_of timelines ≡ told → s.moment ≤ moment → (place : ℕ) (d : Timeline) → place < length timelines
    → (get_or timelines place d).since ≤ moment
since-mapped s moment timelines told tells same later place d inside =
    let there : place < length told = omega (arith, inside, length-map timelines times_of, ap length same) in
    let is : (get_or timelines place d).since ≡ (get_or told place (times_of d)).since =
    ap (λ (times : Times). times.since) (sym (get_or-map times_of timelines place d (times_of d) inside))
    ∙ ap (λ (l : List Times). (get_or l place (times_of d)).since) same in
    omega (arith, is, tells.since place (times_of d) there, later)

-- ---- what is kept

-- what is used from a moment on, by few processors
few-more : (cpus before moment now : ℕ) (window : Window) → cpus ≤ 1048576 → before ≤ 1048576 * moment → moment ≤ now
    → before + cpus * seconds_in window moment now ≤ 1048576 * now
few-more cpus before moment now window few low after =
    omega (
      arith,
      seconds_in-few window moment now,
      low,
      after,
      mul-le-mul_left (seconds_in window moment now) few,
    )

pub keeps-none : (opening : State) (held : List ℕ) (timelines : List Times) → IsSound opening
    → length held ≡ length opening.assocs
    → AreCounted opening.jobs held
    → timelines ≡ map (begun opening.moment) held
    → KeepsUse (record { opening = opening; entries = [] }) timelines
unfolding used_in
keeps-none opening held timelines sound long counts are =
    let same : length timelines ≡ length held = ap length are ∙ length-map held (begun opening.moment) in
    let at : (place : ℕ) (d : Times) → place < length timelines
    → get_or timelines place d ≡ begun opening.moment (cpus_run_by opening.jobs place) =
    λ place d inside.
    let there : place < length held = omega (arith, inside, same) in
    let exact : get_or held place 0 ≡ cpus_run_by opening.jobs place = counts place there in
    ap (λ l. get_or l place d) are ∙ get_or-map (begun opening.moment) held place 0 d there
    ∙ ap (begun opening.moment) exact in
    record {
      each = same ∙ long;
      held = record {
        cpus = λ place d inside. ap (λ (times : Times). times.cpus) (at place d inside);
        since = λ place d inside. omega (arith, ap (λ (times : Times). times.since) (at place d inside));
      };
      used = λ place d window now inside after.
          ap (λ times. used_in times window now) (at place d inside)
          ∙ zero-add (cpus_run_by opening.jobs place * seconds_in window opening.moment now)
          ∙ sym (used_at-none opening place window now);
      small = λ place window now after.
          let none : 0 ≤ 1048576 * opening.moment = omega arith in
          omega (
            arith,
            used_at-none opening place window now,
            few-more (cpus_run_by opening.jobs place) 0 opening.moment now window (running-few opening place sound) none after,
          );
    }

pub keeps-add : (h : History) (e : Entry) (t : State) (timelines timelines' : List Times) → KeepsUse h timelines
    → IsLegal h.opening (h.entries ++ e ∷ []) → t ≡ state_after (present h) e.moment e.user e.request → IsSound t
    → AllGoOn e.moment t.jobs timelines timelines'
    → (t ≡ after_all h.opening (h.entries ++ e ∷ []))
    × KeepsUse (record { opening = h.opening; entries = h.entries ++ e ∷ [] }) timelines'
keeps-add h e t timelines timelines' kept legal made sound on =
    let reached : t ≡ after_all h.opening (h.entries ++ e ∷ []) = made ∙ sym (after_all-push h.opening h.entries e) in
    let step = last-step h.opening h.entries e legal in
    let there : (after_all h.opening (h.entries ++ e ∷ [])).moment ≡ e.moment =
    ap (λ (s : State). s.moment) (after_all-push h.opening h.entries e) ∙ step-moment (present h) e step in
    let pushed : (place : ℕ) (window : Window) (now : ℕ)
    → used_at (record { opening = h.opening; entries = h.entries ++ e ∷ [] }) place window now
    ≡ used_at h place window e.moment + cpus_run_by t.jobs place * seconds_in window e.moment now =
    λ place window now.
    used_at-push h.opening h.entries e place window now
    ∙ ap (λ (s : State). used_at h place window e.moment + cpus_run_by s.jobs place * seconds_in window e.moment now)
    (sym reached) in
    let keeps : KeepsUse (record { opening = h.opening; entries = h.entries ++ e ∷ [] }) timelines' = record {
      each = on.each ∙ kept.each;
      held = record {
        cpus = λ place d inside.
            (on.goes place d (omega (arith, inside, on.each))).cpus
            ∙ ap (λ (s : State). cpus_run_by s.jobs place) reached;
        since = λ place d inside.
            omega (arith, there, (on.goes place d (omega (arith, inside, on.each))).since);
      };
      used = λ place d window now inside after.
          let inner : place < length timelines = omega (arith, inside, on.each) in
          (on.goes place d inner).used window now (omega (arith, after, there))
          ∙ ap (λ before. before + cpus_run_by t.jobs place * seconds_in window e.moment now)
          (kept.used place d window e.moment inner step.moment)
          ∙ sym (pushed place window now);
      small = λ place window now after.
          omega (
            arith,
            pushed place window now,
            few-more (cpus_run_by t.jobs place) (used_at h place window e.moment) e.moment now window
                (running-few t place sound) (kept.small place window e.moment step.moment) (omega (arith, after, there)),
          );
    } in
    (reached, keeps)

-- a machine's word is wide enough for what was used
pub word-wide : (h : History) (timelines : List Timeline) (timeline : Timeline) (place result now : ℕ)
    (window : Window) → KeepsUse h (map times_of timelines) → place < length timelines
    → (present h).moment ≤ now → now ≤ 250000000000 → timeline ≡ get_or timelines place timeline
    → result ≡ min (used_in (times_of timeline) window now) (2 ^ 64 - 1)
    → result ≡ used_at h place window now
word-wide h timelines timeline place result now window kept inside after early is found =
    let there : place < length (map times_of timelines) = omega (arith, inside, length-map timelines times_of) in
    let same : get_or (map times_of timelines) place (times_of timeline) ≡ times_of timeline =
    get_or-map times_of timelines place timeline (times_of timeline) inside ∙ ap times_of (sym is) in
    let tells : used_in (times_of timeline) window now ≡ used_at h place window now =
    ap (λ times. used_in times window now) (sym same)
    ∙ kept.used place (times_of timeline) window now there after in
    omega (arith, found, tells, early, kept.small place window now after)
