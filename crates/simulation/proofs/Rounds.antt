-- Rounds, and the numbers of the daemons' reports along them.
use Rattle.std.proofs.Common.{◌≡◌, ◌≢◌, ℕ, suc, ◌+◌, ◌-◌, ◌<◌, ◌≤◌, ◌^◌, Bool, true, false, nat_eq, if◌then◌else◌, Option, Some, None, List, [], ◌∷◌, refl, sym, ap, ◌∙◌, subst, inl, inr, arith, All, Contains}
use Rattle.std.specs.List.{filter_map, cons_option}
use Rattle.std.proofs.lemmas.Bool.{cases_Bool, eqb-true}
use Rattle.std.proofs.lemmas.List.Elements.{All-nil, All-cons, All-weaker}
use Rattle.request_data.specs.declared.request.Request.TheVariants.{Pass}
use Rattle.reply_data.specs.declared.reply.Reply.{Reply}
use Rattle.reply_data.specs.declared.reply.Reply.TheVariants.{Passed}
use Rattle.reply_data.specs.declared.view.Row.{Row}
use Rattle.reply_data.specs.declared.view.Row.TheVariants.{Node}
use Rattle.ctl_state.specs.State.{State}
use Rattle.ctl_desk.specs.Desk.{Sight}
use Rattle.node_daemon.specs.Daemon.{Daemon, started}
use Rattle.simulation.specs.Run.{AllGoOn, EndAtLast, HaveReported, IfOneAlone, IsShown, rounds_later, state_seen}
use Rattle.simulation.specs.Simulation.{Simulated, behind, count_of, counted, daemon_of, daemons_behind_turns, daemons_of, is_left, jobs_asked, looked, most_rounds, nodes_asked, round, rounds, rows_of, state_behind_turns, tallied, told}
use Rattle.simulation.specs.declared.tally.Tally.{Tally}
use Rattle.simulation.proofs.Desks.{all_go_further, alone_further}
use Rattle.simulation.proofs.Following.{IsTold}

-- a further report has a number of 64 bits
pub may_report : (n : ℕ) (daemons : List Daemon) → n + 1 < 2 ^ 64 → HaveReported n daemons
    → All (λ (daemon : Daemon). daemon.number + 1 < 2 ^ 64) daemons
may_report n daemons few all =
    All-weaker (λ (d : Daemon). d.number ≡ n) (λ (d : Daemon). d.number + 1 < 2 ^ 64)
    (λ d is_n. let same : d.number ≡ n = is_n in omega (arith, same, few)) daemons all

-- the daemons had their turns
abbrev pub AreTurned : ℕ → List Daemon → List Daemon → State → State → Type 0
AreTurned now daemons daemons' s s' =
    (s' ≡ state_behind_turns now s daemons) × (daemons' ≡ daemons_behind_turns now s daemons)

-- a pass followed
abbrev pub IsPassed : ℕ → Tally → Tally → State → State → Type 0
IsPassed now tally tally' s s' = (s' ≡ behind now Pass s) × (tally' ≡ tallied now (told now Pass s) tally)

-- the jobs were looked at
abbrev pub IsLooked : ℕ → Tally → Tally → State → State → Type 0
IsLooked now tally tally' s s' =
    (s' ≡ behind now jobs_asked s) × (tally' ≡ looked (rows_of (told now jobs_asked s)) tally)

-- a round was made
abbrev pub IsRound : List Daemon → Tally → List Daemon → Tally → State → State → Type 0
IsRound daemons tally daemons' tally' s s' =
    record { state = s'; daemons = daemons'; tally = tally' }
    ≡ round (record { state = s; daemons = daemons; tally = tally })

-- what is counted of a pass, and of a look
pub moment_taken : (now : ℕ) (reply : Reply) (tally : Tally) → (tallied now reply tally).moment ≡ now
moment_taken now (Passed ended started planned) tally = refl
moment_taken now reply tally = refl

pub pass_counts : (now : ℕ) (reply : Reply) (tally tally' : Tally) → tally' ≡ tallied now reply tally
    → (s s' : State) → IsTold now Pass reply s s' → IsPassed now tally tally' s s'
pass_counts now reply tally tally' counts s s' is =
    (is.1, counts ∙ ap (λ (r : Reply). tallied now r tally) is.0)

pub look_counts : (now : ℕ) (reply : Reply) (rows : List Row) (tally tally' : Tally) → rows ≡ rows_of reply
    → tally' ≡ looked rows tally
    → (s s' : State) → IsTold now jobs_asked reply s s' → IsLooked now tally tally' s s'
look_counts now reply rows tally tally' shows counts s s' is =
    (is.1, counts ∙ ap (λ rs. looked rs tally) (shows ∙ ap rows_of is.0))

pub shows_left : (desks : List Sight) (now : ℕ) (reply : Reply) (rows : List Row) (tally tally' : Tally)
    → rows ≡ rows_of reply → tally' ≡ looked rows tally
    → (desk : Sight) × Contains desks desk × (reply ≡ told now jobs_asked (state_seen desk))
    → IsShown desks now tally'.left
shows_left desks now reply rows tally tally' shows counts desk = (
  desk.0,
  desk.1,
  ap (λ (t : Tally). t.left) counts ∙ ap (count_of is_left) (shows ∙ ap rows_of desk.2),
)

round_is : (now : ℕ) (daemons daemons' : List Daemon) (tally counts tally' : Tally) → now ≡ counted tally.moment 30
    → (s turned passed s' : State)
    → AreTurned now daemons daemons' s turned → IsPassed now tally counts turned passed
    → IsLooked now counts tally' passed s' → IsRound daemons tally daemons' tally' s s'
unfolding round
round_is now daemons daemons' tally counts tally' at s turned passed s' turns passes looks =
    rw (looks.0, looks.1, passes.0, passes.1, turns.0, turns.1, at) refl

-- a round, step by step
pub round_made : (now : ℕ) (daemons daemons' : List Daemon) (tally counts tally' : Tally) → now ≡ counted tally.moment 30
    → (desks turned passed desks' : List Sight)
    → AllGoOn desks turned → AllGoOn turned passed → AllGoOn passed desks'
    → IfOneAlone desks turned (AreTurned now daemons daemons')
    → IfOneAlone turned passed (IsPassed now tally counts)
    → IfOneAlone passed desks' (IsLooked now counts tally')
    → IfOneAlone desks desks' (IsRound daemons tally daemons' tally')
round_made now daemons daemons' tally counts tally' at desks turned passed desks' one two three turns passes looks =
    let both : State → State → Type 0 =
    λ s u. (t : State) × AreTurned now daemons daemons' s t × IsPassed now tally counts t u in
    alone_further both (IsLooked now counts tally') (IsRound daemons tally daemons' tally') desks passed desks'
    (all_go_further desks turned passed one two) three
    (alone_further (AreTurned now daemons daemons') (IsPassed now tally counts) both desks turned passed one two turns
    passes (λ s t u is next. (t, is, next)))
    looks
    (λ s u v before is. round_is now daemons daemons' tally counts tally' at s before.0 u v before.1 before.2 is)

pub most_rounds_is : most_rounds ≡ 300000
unfolding most_rounds
most_rounds_is = refl

-- so many rounds lead on from a state, these daemons and this tally to where all do from others
abbrev pub LeadOn : ℕ → List Daemon → Tally → ℕ → List Daemon → Tally → State → State → Type 0
LeadOn most from counts n daemons tally s t =
    rounds n (record { state = t; daemons = daemons; tally = tally })
    ≡ rounds most (record { state = s; daemons = from; tally = counts })

pub rounds_begin : (most : ℕ) (daemons : List Daemon) (tally : Tally) (s : State)
    → LeadOn most daemons tally (most - 0) daemons tally s s
rounds_begin most daemons tally s =
    let all : most - 0 ≡ most = omega arith in
    ap (λ n. rounds n (record { state = s; daemons = daemons; tally = tally })) all

-- all rounds that may be made end the simulation so, from these daemons and this tally on
abbrev pub EndSo : List Daemon → Tally → (State → Option Simulated) → State → State → Type 0
EndSo daemons tally end s t =
    rounds most_rounds (record { state = s; daemons = daemons; tally = tally }) ≡ end t

-- whether they end, and how
abbrev pub ended : Bool → List Daemon → Tally → State → Option Simulated
ended is_over daemons tally s =
    if is_over then Some (record { state = s; daemons = daemons; tally = tally }) else None

-- the last round is one behind which no job is left
pub ends_here : (n m : ℕ) (sim after : Simulated) (whole : Option Simulated) → n ≡ suc m → rounds n sim ≡ whole
    → after ≡ round sim → after.tally.left ≡ 0 → whole ≡ Some after
ends_here n m sim after whole some leads is none =
    sym leads ∙ ap (λ k. rounds k sim) some
    ∙ ap (λ (r : Simulated). if nat_eq r.tally.left 0 then Some r else rounds m r) (sym is)
    ∙ rw none refl

some_left : (n : ℕ) → (n ≡ 0 → ⊥) → nat_eq n 0 ≡ false
some_left n some = elim (cases_Bool (nat_eq n 0)) [ inl none ↦ absurd (some (eqb-true n 0 none)) | inr more ↦ more ]

-- otherwise the others lead to where it does
pub goes_on : (n m : ℕ) (sim after : Simulated) (whole : Option Simulated) → n ≡ suc m → rounds n sim ≡ whole
    → after ≡ round sim → (after.tally.left ≡ 0 → ⊥) → rounds m after ≡ whole
goes_on n m sim after whole some leads is more =
    sym (sym leads ∙ ap (λ k. rounds k sim) some
    ∙ ap (λ (r : Simulated). if nat_eq r.tally.left 0 then Some r else rounds m r) (sym is)
    ∙ rw (some_left after.tally.left more) refl)

-- no round is left
pub no_more : (n : ℕ) (sim : Simulated) → n ≡ 0 → rounds n sim ≡ None
no_more n sim none = ap (λ k. rounds k sim) none

-- one round later
pub one_later : (n from last now : ℕ) → last ≡ rounds_later n from → now ≡ counted last 30 → now ≡ rounds_later (n + 1) from
one_later n from last now before is =
    let next : n + 1 ≡ suc n = omega arith in
    rw next (is ∙ ap (λ moment. counted moment 30) before)

-- the last round is one behind which no job is left
pub ends_over : (n from last left : ℕ) (desks : List Sight) → n ≤ most_rounds → last ≡ rounds_later n from
    → IsShown desks last left → left ≡ 0 → EndAtLast true from last desks
ends_over n from last left desks few is shows none = (n, few, is, subst (IsShown desks last) none shows)

-- or the last one that may be made
pub ends_spent : (n from last left : ℕ) (desks : List Sight) → n ≡ most_rounds → last ≡ rounds_later n from
    → IsShown desks last left → left ≢ 0 → EndAtLast false from last desks
ends_spent n from last left desks all is shows some =
    (left, some, is ∙ ap (λ m. rounds_later m from) all, shows)

-- the daemons of the nodes that are shown
abbrev pub AreStarted : ℕ → List Daemon → State → State → Type 0
AreStarted now daemons s s' = (daemons ≡ daemons_of (told now nodes_asked s)) × (s' ≡ behind now nodes_asked s)

pub nodes_start : (now : ℕ) (reply : Reply) (rows : List Row) (daemons : List Daemon) → rows ≡ rows_of reply
    → daemons ≡ filter_map daemon_of rows
    → (s s' : State) → IsTold now nodes_asked reply s s' → AreStarted now daemons s s'
nodes_start now reply rows daemons shows starts s s' is =
    (starts ∙ ap (filter_map daemon_of) (shows ∙ ap rows_of is.0), is.1)

-- a daemon that was just started has made none
pub new_daemons : (rows : List Row) → HaveReported 0 (filter_map daemon_of rows)
new_daemons [] = All-nil (λ (d : Daemon). d.number ≡ 0)
new_daemons (row ∷ rows) = by row (new_daemons rows) where
  by : (row : Row) → HaveReported 0 (filter_map daemon_of rows)
      → HaveReported 0 (cons_option (daemon_of row) (filter_map daemon_of rows))
  by (Node node) others =
      All-cons (λ (d : Daemon). d.number ≡ 0) (started node.name 1) (filter_map daemon_of rows) refl others
  by other others = others
