-- Along a history the usage of an association grows by what is accounted.
use Rattle.std.proofs.Common.{zero, suc, ℕ, ◌≡◌, ◌≤◌, ◌<◌, ◌+◌, ◌-◌, ◌*◌, ◌∙◌, min, Bool, true, false, cond, List, [], ◌∷◌, ◌++◌, length, replicate, take, option_map, refl, sym, ap, subst, arith, true≢false, zero-add}
use Rattle.std.specs.Prelude.{unwrap_or, slice_get}
use Rattle.std.proofs.Math.Nat.{mul_comm}
use Rattle.std.proofs.lemmas.List.{take_all}
use Rattle.request_data.specs.declared.request.Request.{Request}
use Rattle.job_table.specs.Usage.{greatest_usage}
use Rattle.ctl_state.specs.Soundness.{IsSound}
use Rattle.ctl_state.specs.State.{State}
use Rattle.ctl_state.specs.Verdicts.{left_by}
use Rattle.ctl_waiting.specs.Usage.{usage_at}
use Rattle.ctl_core.specs.Sizes.{size_of}
use Rattle.ctl_core.specs.Step.{entered, is_entered, raised, reply_of, state_after, verdict_of}
use Rattle.ctl_desk.specs.declared.entry.Entry.{Entry}
use Rattle.ctl_desk.specs.History.{History, IsHistory, IsLegal, IsStep, after_all, present}
use Rattle.sacct_book.specs.Laws.{BeginsWithTheOpening, GrowsByWhatRuns, LiesBetween}
use Rattle.sacct_book.specs.Running.{cpus_run_by as held_by, cpus_running as held}
use Rattle.sacct_book.specs.Used.{used_at}
use Rattle.sacct_book.specs.Windows.{seconds_in}
use Rattle.user_laws.specs.Accounting.{all_until}
use Rattle.user_laws.specs.Using.{cpus_run_by}
use Rattle.user_laws.proofs.Remaining.{assocs_stay}
use Rattle.ctl_desk.proofs.Entering.{after_all-push as pushed}

-- what the laws below say
pub record Grows : Type 0 where
  pub opening : BeginsWithTheOpening
  pub entry : GrowsByWhatRuns
  pub between : LiesBetween
  pub steps : (s : State) (now : ℕ) (user : List ℕ) (request : Request) (place : ℕ) → IsSound s
      → usage_at (state_after s now user request) (raised s now) place ≡ usage_at s (raised s now) place
  pub time : (s : State) (moment seconds place : ℕ) → IsSound s → s.moment ≤ moment → place < length s.assocs
      → usage_at s (moment + seconds) place
      ≡ min (usage_at s moment place + seconds * cpus_run_by s place) greatest_usage

-- ---- a history entry by entry

-- one entry more, which is one that the controller makes after those before it
next : (s : State) (es : List Entry) (n : ℕ) → n < length es → IsLegal s es
    → (e : Entry) × (take (suc n) es ≡ take n es ++ e ∷ []) × IsStep (after_all s (take n es)) e
next s [] n inside legal = absurd (omega (arith, inside))
next s (e ∷ es) zero inside legal = (e, refl, legal.0)
next s (e ∷ es) (suc n) inside legal =
    let rest = next (state_after s e.moment e.user e.request) es n (omega (arith, inside)) legal.1 in
    (rest.0, ap (λ l. e ∷ l) rest.1, rest.2)

assocs-all : (s : State) (es : List Entry) → (after_all s es).assocs ≡ s.assocs
assocs-all s [] = refl
assocs-all s (e ∷ es) =
    assocs-all (state_after s e.moment e.user e.request) es ∙ assocs_stay s e.moment e.user e.request

moment-if : (b : Bool) (made stays : State) (moment : ℕ) → b ≡ true → made.moment ≡ moment
    → (cond b made stays).moment ≡ moment
moment-if true made stays moment is there = there
moment-if false made stays moment is there = absurd (true≢false (sym is))

-- the state after an entry bears its moment
step-moment : (s : State) (e : Entry) → IsStep s e → (state_after s e.moment e.user e.request).moment ≡ e.moment
step-moment s e step =
    let later : raised s e.moment ≡ e.moment = omega (arith, step.moment) in
    moment-if (is_entered (reply_of s e.moment e.user e.request))
    (entered (raised s e.moment) (size_of e.request) (left_by s (verdict_of s e.moment e.user e.request))) s e.moment
    (ap is_entered (sym step.reply) ∙ step.accepted) later

-- ---- time

-- both say the same of what runs
same-held : (s : State) (place : ℕ) → held_by s.jobs place ≡ cpus_run_by s place
unfolding held_by held cpus_run_by
same-held s place = refl

-- from a moment until now usage grows by what is accounted
in-time : Grows → (s : State) (moment now until place : ℕ) → IsSound s → s.moment ≤ moment → moment ≤ now
    → now ≤ until → place < length s.assocs
    → usage_at s now place
    ≡ min (usage_at s moment place + held_by s.jobs place * seconds_in (all_until until) moment now) greatest_usage
in-time laws s moment now until place sound later after early below =
    let seconds : seconds_in (all_until until) moment now ≡ now - moment =
    omega (arith, laws.between (all_until until) moment now) in
    let whole : now ≡ moment + (now - moment) = omega (arith, after) in
    let grows : (now - moment) * cpus_run_by s place
    ≡ held_by s.jobs place * seconds_in (all_until until) moment now =
    mul_comm (now - moment) (cpus_run_by s place)
    ∙ ap (λ n. n * (now - moment)) (sym (same-held s place))
    ∙ ap (λ n. held_by s.jobs place * n) (sym seconds) in
    ap (λ n. usage_at s n place) whole
    ∙ laws.time s moment (now - moment) place sound later below
    ∙ ap (λ n. min (usage_at s moment place + n) greatest_usage) grows

lowered : (begun used more most : ℕ) → min (min (begun + used) most + more) most ≡ min (begun + (used + more)) most
lowered begun used more most = omega arith

-- ---- one entry more

step-grows : Grows → (o : State) (es : List Entry) (e : Entry) (begun place until now : ℕ)
    → IsStep (after_all o es) e → IsSound (after_all o es) → IsSound (after_all o (es ++ e ∷ []))
    → place < length o.assocs → (after_all o (es ++ e ∷ [])).moment ≤ now → now ≤ until
    → usage_at (after_all o es) e.moment place
    ≡ min (begun + used_at (record { opening = o; entries = es }) place (all_until until) e.moment) greatest_usage
    → usage_at (after_all o (es ++ e ∷ [])) now place
    ≡ min (begun + used_at (record { opening = o; entries = es ++ e ∷ [] }) place (all_until until) now) greatest_usage
step-grows laws o es e begun place until now step sound sound' below after early was =
    let s = after_all o es in
    let t = after_all o (es ++ e ∷ []) in
    let made : t ≡ state_after s e.moment e.user e.request = pushed o es e in
    let there : t.moment ≡ e.moment = ap (λ (one : State). one.moment) made ∙ step-moment s e step in
    let inside : place < length t.assocs = omega (arith, below, ap length (assocs-all o (es ++ e ∷ []))) in
    let raises : raised s e.moment ≡ e.moment = omega (arith, step.moment) in
    let same : usage_at t e.moment place ≡ usage_at s e.moment place =
    ap (λ (one : State). usage_at one e.moment place) made
    ∙ ap (λ moment. usage_at (state_after s e.moment e.user e.request) moment place) (sym raises)
    ∙ laws.steps s e.moment e.user e.request place sound
    ∙ ap (λ moment. usage_at s moment place) raises in
    let used = used_at (record { opening = o; entries = es }) place (all_until until) e.moment in
    let more = held_by t.jobs place * seconds_in (all_until until) e.moment now in
    in-time laws t e.moment now until place sound' (omega (arith, there)) (omega (arith, there, after)) early inside
    ∙ ap (λ n. min (n + more) greatest_usage) (same ∙ was)
    ∙ lowered begun used more greatest_usage
    ∙ ap (λ n. min (begun + n) greatest_usage) (sym (laws.entry o es e place (all_until until) now))

-- what is to be shown of the first entries
abbrev IsGrown : State → ℕ → ℕ → List Entry → Type 0
IsGrown o place until es = (now : ℕ) → (after_all o es).moment ≤ now → now ≤ until
    → usage_at (after_all o es) now place
    ≡ min (usage_at o o.moment place + used_at (record { opening = o; entries = es }) place (all_until until) now)
    greatest_usage

grown : Grows → (h : History) → IsHistory h → (place until n : ℕ) → place < length h.opening.assocs
    → n ≤ length h.entries → IsGrown h.opening place until (take n h.entries)
grown laws h is place until zero below inside = λ now after early.
    in-time laws h.opening h.opening.moment now until place (is.sound 0) (omega arith) after early below
    ∙ ap (λ n. min (usage_at h.opening h.opening.moment place + n) greatest_usage)
    (sym (laws.opening h.opening place (all_until until) now))
grown laws h is place until (suc n) below inside =
    let found = next h.opening h.entries n (omega (arith, inside)) is.legal in
    let first = take n h.entries in
    let e : Entry = found.0 in
    let sound : IsSound (after_all h.opening (first ++ e ∷ [])) =
    subst (λ (l : List Entry). IsSound (after_all h.opening l)) found.1 (is.sound (suc n)) in
    let before = grown laws h is place until n below (omega (arith, inside)) in
    subst (IsGrown h.opening place until) (sym found.1)
    (λ now after early.
    let there : (after_all h.opening (first ++ e ∷ [])).moment ≡ e.moment =
    ap (λ (one : State). one.moment) (pushed h.opening first e) ∙ step-moment (after_all h.opening first) e found.2 in
    step-grows laws h.opening first e (usage_at h.opening h.opening.moment place) place until now found.2 (is.sound n)
    sound below after early
    (before e.moment found.2.moment (omega (arith, there, after, early))))

-- ---- whole histories

pub usage_grows : Grows → (h : History) (place now : ℕ) → IsHistory h → place < length h.opening.assocs
    → (present h).moment ≤ now → usage_at (present h) now place
    ≡ min (usage_at h.opening h.opening.moment place + used_at h place (all_until now) now) greatest_usage
usage_grows laws h place now is below after =
    let all : take (length h.entries) h.entries ≡ h.entries = take_all (length h.entries) h.entries (omega arith) in
    subst (IsGrown h.opening place now) all (grown laws h is place now (length h.entries) below (omega arith)) now after
    (omega arith)

-- an association of which no total is kept yet, and no job
none-kept : (count place : ℕ) → unwrap_or (option_map (λ total. min (total + 0) greatest_usage) (slice_get (replicate count 0) place)) 0 ≡ 0
none-kept zero place = refl
none-kept (suc count) zero = refl
none-kept (suc count) (suc place) = none-kept count place

nothing-used : (s : State) (moment place : ℕ) → s.jobs ≡ [] → s.usage ≡ replicate (length s.assocs) 0
    → usage_at s moment place ≡ 0
unfolding usage_at
nothing-used s moment place none totals = rw (none, totals) (none-kept (length s.assocs) place)

pub usage_whole : Grows → (h : History) (place now : ℕ) → IsHistory h → place < length h.opening.assocs
    → (present h).moment ≤ now → h.opening.jobs ≡ [] → h.opening.usage ≡ replicate (length h.opening.assocs) 0
    → usage_at (present h) now place ≡ min (used_at h place (all_until now) now) greatest_usage
usage_whole laws h place now is below after none totals =
    usage_grows laws h place now is below after
    ∙ ap (λ n. min (n + used_at h place (all_until now) now) greatest_usage)
    (nothing-used h.opening h.opening.moment place none totals)
    ∙ ap (λ n. min n greatest_usage) (zero-add (used_at h place (all_until now) now))
