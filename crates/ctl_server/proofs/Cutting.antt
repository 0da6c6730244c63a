-- Where connections stand in a history that begins with what their desk has seen in the end.
use Rattle.std.proofs.Common.{◌≡◌, ℕ, suc, zero, ◌+◌, ◌-◌, ◌<◌, ◌≤◌, ◌==◌, eqb, Bool, if◌then◌else◌, true, false, List, [], ◌∷◌, ◌++◌, length, take, drop, slice_get, All, Any, Some, ◌⊎◌, ⊎_elim, refl, sym, ap, ◌∙◌, subst, arith, append_assoc, append-nil, length-append, eq-eqb}
use Rattle.std.proofs.lemmas.Bool.{cases_lt}
use Rattle.std.proofs.lemmas.List.{take_at, drop_at, append_cancel_left}
use Rattle.std.proofs.lemmas.List.Elements.{All-nil, All-cons, filter-append}
use Rattle.slurm_net.specs.Session.{LinkSession}
use Rattle.turn_lock.specs.Views.{StartsWith}
use Rattle.ctl_state.specs.State.{State}
use Rattle.ctl_desk.specs.declared.entry.Entry.{Entry}
use Rattle.ctl_desk.specs.Desk.{Sight, GoesOn, later, seen}
use Rattle.ctl_desk.specs.History.{of_session}
use Rattle.ctl_session.specs.Clock.{Timing}
use Rattle.ctl_server.specs.Serving.{Serving, IsServing, cut_of, moments_in, moments_of, session_in, sessions_in}
use Rattle.ctl_server.specs.Run.{IsRefreshed, Follow}
use Rattle.ctl_server.specs.Served.{HasSeen, Served, between, entries_within, IsWithin}
use Rattle.ctl_server.proofs.Following.{goes_on_twice}

-- ---- what is seen grows

-- a desk that has gone on: how much more it has seen, and that it is the same desk
pub record Grows (desk desk' : Sight) : Type 0 where
  pub more : List Entry
  pub seen_is : seen desk' ≡ seen desk ++ more
  pub mine_is : desk'.mine ≡ desk.mine ++ of_session desk.number more
  pub number_is : desk'.number ≡ desk.number
  pub opening_is : desk'.opening ≡ desk.opening

pub grows : (desk desk' : Sight) → GoesOn desk desk' → Grows desk desk'
grows desk desk' goes_on = subst (λ d. Grows desk d) (sym goes_on.1) (record {
  more = goes_on.0;
  seen_is = sym (append_assoc desk.before desk.since goes_on.0);
  mine_is = refl;
  number_is = refl;
  opening_is = refl;
})

pub serving_goes_on : (serving : Serving) → IsServing serving → GoesOn serving.desk serving.desk'
serving_goes_on serving is = (is.served.answers.since, is.served.answers.goes_on)

pub follow_goes_on : (desk : Sight) (clock : Timing) (servings : List Serving) (desk' : Sight) (clock' : Timing)
    → Follow desk clock servings desk' clock' → GoesOn desk desk'
follow_goes_on desk clock [] desk' clock' follow = follow.0.0
follow_goes_on desk clock (serving ∷ servings) desk' clock' follow =
    goes_on_twice desk serving.desk desk' follow.0.0
    (goes_on_twice serving.desk serving.desk' desk' (serving_goes_on serving follow.2)
    (follow_goes_on serving.desk' serving.clock' servings desk' clock' follow.3))

-- a history that begins with what a desk has seen begins with what it had seen before
pub starts_before : (history : List Entry) (desk desk' : Sight) → GoesOn desk desk' → StartsWith history (seen desk')
    → StartsWith history (seen desk)
starts_before history desk desk' goes_on starts =
    let grown = grows desk desk' goes_on in (
      grown.more ++ starts.0,
      starts.1 ∙ ap (λ l. l ++ starts.0) grown.seen_is ∙ append_assoc (seen desk) grown.more starts.0,
    )

pub longer : (desk desk' : Sight) → GoesOn desk desk' → length (seen desk) ≤ length (seen desk')
longer desk desk' goes_on =
    let grown = grows desk desk' goes_on in omega (arith, ap length grown.seen_is, length-append (seen desk) grown.more)

-- ---- where connections stand

pub begin : (low : ℕ) (desk : Sight) (clock : Timing) (servings : List Serving) (desk' : Sight) (clock' : Timing)
    → low ≤ length (seen desk) → Follow desk clock servings desk' clock'
    → All (λ serving. low ≤ (cut_of serving).before) servings
begin low desk clock [] desk' clock' below follow = All-nil (λ serving. low ≤ (cut_of serving).before)
begin low desk clock (serving ∷ servings) desk' clock' below follow =
    let first : low ≤ length (seen serving.desk) = omega (arith, longer desk serving.desk follow.0.0) in
    let next : low ≤ length (seen serving.desk') =
    omega (arith, longer serving.desk serving.desk' (serving_goes_on serving follow.2)) in
    All-cons (λ later. low ≤ (cut_of later).before) serving servings first
    (begin low serving.desk' serving.clock' servings desk' clock' next follow.3)

has_seen : (number : ℕ) (opening : State) (history : List Entry) (desk : Sight) → desk.number ≡ number
    → desk.opening ≡ opening → StartsWith history (seen desk)
    → HasSeen number opening (take (length (seen desk)) history) desk
has_seen number opening history desk bears opens starts = record {
  bears = bears;
  opens = opens;
  sees = sym (ap (take (length (seen desk))) starts.1 ∙ take_at (seen desk) starts.0 (length (seen desk)) refl);
}

fits : (history : List Entry) (desk : Sight) → StartsWith history (seen desk) → length (seen desk) ≤ length history
fits history desk starts = omega (arith, ap length starts.1, length-append (seen desk) starts.0)

pub serves : (number : ℕ) (opening : State) (history : List Entry) (desk : Sight) (clock : Timing)
    (servings : List Serving) (desk' : Sight) (clock' : Timing) → desk.number ≡ number → desk.opening ≡ opening
    → Follow desk clock servings desk' clock' → StartsWith history (seen desk')
    → Served number opening history (moments_of servings) servings
serves number opening history desk clock [] desk' clock' bears opens follow starts = tt
serves number opening history desk clock (serving ∷ servings) desk' clock' bears opens follow starts =
    let on = serving_goes_on serving follow.2 in
    let last = follow_goes_on serving.desk' serving.clock' servings desk' clock' follow.3 in
    let first = grows desk serving.desk follow.0.0 in
    let came = grows serving.desk serving.desk' on in
    let starts' : StartsWith history (seen serving.desk') = starts_before history serving.desk' desk' last starts in
    let count : length (moments_in serving) ≡ (cut_of serving).readings = sym follow.2.served.readings in
    let bears' : serving.desk.number ≡ number = first.number_is ∙ bears in
    let opens' : serving.desk.opening ≡ opening = first.opening_is ∙ opens in
    let left : drop (cut_of serving).readings (moments_in serving ++ moments_of servings) ≡ moments_of servings =
    drop_at (moments_in serving) (moments_of servings) (cut_of serving).readings count in (
      record {
        served = follow.2;
        rises = longer serving.desk serving.desk' on;
        within = fits history serving.desk' starts';
        before = has_seen number opening history serving.desk bears' opens'
            (starts_before history serving.desk serving.desk' on starts');
        after = has_seen number opening history serving.desk' (came.number_is ∙ bears') (came.opening_is ∙ opens')
            starts';
        gives = sym (take_at (moments_in serving) (moments_of servings) (cut_of serving).readings count);
      },
      begin (length (seen serving.desk')) serving.desk' serving.clock' servings desk' clock' (omega arith) follow.3,
      rw left (serves number opening history serving.desk' serving.clock' servings desk' clock'
          (came.number_is ∙ bears') (came.opening_is ∙ opens') follow.3 starts),
    )

-- ---- the entries of the desk

-- what a connection's cut bounds came while it was served
came_between : (history : List Entry) (serving : Serving) (is : IsServing serving)
    → StartsWith history (seen serving.desk')
    → between (cut_of serving) history ≡ (grows serving.desk serving.desk' (serving_goes_on serving is)).more
came_between history serving is starts =
    let grown = grows serving.desk serving.desk' (serving_goes_on serving is) in
    ap (λ l. drop (length (seen serving.desk)) l)
    (ap (take (length (seen serving.desk'))) starts.1
    ∙ take_at (seen serving.desk') starts.0 (length (seen serving.desk')) refl ∙ grown.seen_is)
    ∙ drop_at (seen serving.desk) grown.more (length (seen serving.desk)) refl

pub makes : (number : ℕ) (history : List Entry) (desk : Sight) (clock : Timing) (servings : List Serving)
    (desk' : Sight) (clock' : Timing) → desk.number ≡ number
    → Follow desk clock servings desk' clock' → StartsWith history (seen desk')
    → desk'.mine ≡ desk.mine ++ entries_within number history (sessions_in servings)
makes number history desk clock [] desk' clock' bears follow starts = follow.0.1 ∙ sym (append-nil desk.mine)
makes number history desk clock (serving ∷ servings) desk' clock' bears follow starts =
    let on = serving_goes_on serving follow.2 in
    let first = grows desk serving.desk follow.0.0 in
    let came = grows serving.desk serving.desk' on in
    let last = follow_goes_on serving.desk' serving.clock' servings desk' clock' follow.3 in
    let starts' : StartsWith history (seen serving.desk') = starts_before history serving.desk' desk' last starts in
    let number' : serving.desk.number ≡ number = first.number_is ∙ bears in
    let own : of_session serving.desk.number came.more ≡ of_session number (between (cut_of serving) history) =
    ap (λ n. of_session n came.more) number'
    ∙ ap (of_session number) (sym (came_between history serving follow.2 starts')) in
    makes number history serving.desk' serving.clock' servings desk' clock' (came.number_is ∙ number') follow.3 starts
    ∙ ap (λ l. l ++ entries_within number history (sessions_in servings))
    (came.mine_is ∙ ap (λ l. l ++ of_session serving.desk.number came.more) follow.0.1
    ∙ ap (λ l. desk.mine ++ l) own)
    ∙ append_assoc desk.mine (of_session number (between (cut_of serving) history))
    (entries_within number history (sessions_in servings))

-- ---- entries that bear the number

none_later : (b : Bool) (e : Entry) (kept : List Entry) → (if b then e ∷ kept else kept) ≡ [] → kept ≡ []
none_later true e kept none = cc
none_later false e kept none = none

-- where no entry bears a number, none does at a place
pub bears_none : (number : ℕ) (entries : List Entry) (place : ℕ) (entry : Entry) → of_session number entries ≡ []
    → slice_get entries place ≡ Some entry → entry.session ≡ number → ⊥
bears_none number [] place entry none at bears = cc
bears_none number (e ∷ es) zero entry none at bears =
    let is : e ≡ entry = cc in
    let test : eqb e.session number ≡ true = eq-eqb e.session number (ap (λ (x : Entry). x.session) is ∙ bears) in
    let kept : e ∷ of_session number es ≡ [] = rw test at none in cc
bears_none number (e ∷ es) (suc place) entry none at bears =
    bears_none number es place entry (none_later (eqb e.session number) e (of_session number es) none) at bears

-- a place behind the first entries is one of the others
pub behind_first : (xs ys : List Entry) (place : ℕ) (entry : Entry) → length xs ≤ place
    → slice_get (xs ++ ys) place ≡ Some entry → (k : ℕ) × (place ≡ length xs + k) × (slice_get ys k ≡ Some entry)
behind_first [] ys place entry behind at = (place, omega arith, at)
behind_first (x ∷ xs) ys zero entry behind at = absurd (omega arith)
behind_first (x ∷ xs) ys (suc place) entry behind at =
    let next = behind_first xs ys place entry (omega arith) at in (next.0, omega (arith, next.1), next.2)

among_first : (xs ys : List Entry) (place : ℕ) (entry : Entry) → place < length xs
    → slice_get (xs ++ ys) place ≡ Some entry → slice_get xs place ≡ Some entry
among_first [] ys place entry within at = absurd (omega arith)
among_first (x ∷ xs) ys zero entry within at = at
among_first (x ∷ xs) ys (suc place) entry within at = among_first xs ys place entry (omega arith) at

-- no entry that came with a look anew bears the desk's number
looked_none : (desk desk' : Sight) (refreshed : IsRefreshed desk desk')
    → of_session desk.number (grows desk desk' refreshed.0).more ≡ []
looked_none desk desk' refreshed =
    let grown = grows desk desk' refreshed.0 in
    append_cancel_left desk.mine (of_session desk.number grown.more) []
    (sym grown.mine_is ∙ refreshed.1 ∙ sym (append-nil desk.mine))

-- an entry that bears the desk's number stands at no place that came with a look anew
not_looked : (number : ℕ) (history : List Entry) (desk desk' : Sight) (place : ℕ) (entry : Entry) → desk.number ≡ number
    → IsRefreshed desk desk' → StartsWith history (seen desk') → length (seen desk) ≤ place
    → place < length (seen desk') → slice_get history place ≡ Some entry → entry.session ≡ number → ⊥
not_looked number history desk desk' place entry is refreshed starts low high at bears =
    let grown = grows desk desk' refreshed.0 in
    let here : slice_get (seen desk' ++ starts.0) place ≡ Some entry =
    subst (λ l. slice_get l place ≡ Some entry) starts.1 at in
    let near : slice_get (seen desk') place ≡ Some entry = among_first (seen desk') starts.0 place entry high here in
    let there = behind_first (seen desk) grown.more place entry low
    (subst (λ l. slice_get l place ≡ Some entry) grown.seen_is near) in
    bears_none number grown.more there.0 entry
    (ap (λ n. of_session n grown.more) (sym is) ∙ looked_none desk desk' refreshed) there.2 bears

any_later : (P : LinkSession → Type 0) (session : LinkSession) (sessions : List LinkSession) → Any P sessions
    → Any P (session ∷ sessions)
any_later P session sessions any = (suc any.0, any.1, omega (arith, any.2), any.3, any.4)

-- the entries behind what was seen bear no such number
pub rest_none : (number : ℕ) (history seen rest : List Entry) → history ≡ seen ++ rest
    → of_session number history ≡ of_session number seen → of_session number rest ≡ []
rest_none number history seen rest is same =
    append_cancel_left (of_session number seen) (of_session number rest) []
    (sym (filter-append (λ e. e.session == number) seen rest) ∙ ap (of_session number) (sym is) ∙ same
    ∙ sym (append-nil (of_session number seen)))

-- an entry at a place of the history that a desk has not seen doesn't bear its number
not_behind : (number : ℕ) (history : List Entry) (desk : Sight) (place : ℕ) (entry : Entry)
    → (starts : StartsWith history (seen desk)) → of_session number starts.0 ≡ [] → length (seen desk) ≤ place
    → slice_get history place ≡ Some entry → entry.session ≡ number → ⊥
not_behind number history desk place entry starts none low at bears =
    let there = behind_first (seen desk) starts.0 place entry low
    (subst (λ l. slice_get l place ≡ Some entry) starts.1 at) in
    bears_none number starts.0 there.0 entry none there.2 bears

pub within : (number : ℕ) (history : List Entry) (desk : Sight) (clock : Timing) (servings : List Serving)
    (desk' : Sight) (clock' : Timing) (place : ℕ) (entry : Entry) → desk.number ≡ number
    → Follow desk clock servings desk' clock' → (starts : StartsWith history (seen desk'))
    → of_session number starts.0 ≡ [] → length (seen desk) ≤ place → slice_get history place ≡ Some entry
    → entry.session ≡ number → Any (IsWithin place) (sessions_in servings)
within number history desk clock [] desk' clock' place entry is follow starts none low at bears = absurd
    (⊎_elim (λ high. not_looked number history desk desk' place entry is follow.0 starts low high at bears)
    (λ past. not_behind number history desk' place entry starts none past at bears)
    (cases_lt place (length (seen desk'))))
within number history desk clock (serving ∷ servings) desk' clock' place entry is follow starts none low at bears =
    let on = serving_goes_on serving follow.2 in
    let last = follow_goes_on serving.desk' serving.clock' servings desk' clock' follow.3 in
    let starts' : StartsWith history (seen serving.desk') = starts_before history serving.desk' desk' last starts in
    let before = starts_before history serving.desk serving.desk' on starts' in
    let first = grows desk serving.desk follow.0.0 in
    let came = grows serving.desk serving.desk' on in
    let here : length (seen serving.desk) ≤ place
    → (place < length (seen serving.desk')) ⊎ (length (seen serving.desk') ≤ place)
    → Any (IsWithin place) (sessions_in (serving ∷ servings)) = λ from. ⊎_elim
    (λ high. (0, session_in serving, omega arith, refl, (from, high)))
    (λ past. any_later (IsWithin place) (session_in serving) (sessions_in servings)
    (within number history serving.desk' serving.clock' servings desk' clock' place entry
    (came.number_is ∙ first.number_is ∙ is) follow.3 starts none past at bears)) in
    ⊎_elim
    (λ high. absurd (not_looked number history desk serving.desk place entry is follow.0 before low high at bears))
    (λ from. here from (cases_lt place (length (seen serving.desk'))))
    (cases_lt place (length (seen serving.desk)))

-- an entry among those seen doesn't bear a number that none of them bears
pub not_seen : (number : ℕ) (history : List Entry) (desk : Sight) (place : ℕ) (entry : Entry)
    → StartsWith history (seen desk) → of_session number (seen desk) ≡ [] → place < length (seen desk)
    → slice_get history place ≡ Some entry → entry.session ≡ number → ⊥
not_seen number history desk place entry starts none high at bears =
    bears_none number (seen desk) place entry none
    (among_first (seen desk) starts.0 place entry high (subst (λ l. slice_get l place ≡ Some entry) starts.1 at)) bears

-- each entry that bears the number of a desk new to the history stands within a cut
pub all_within : (history : List Entry) (desk : Sight) (clock : Timing) (servings : List Serving)
    (desk' : Sight) (clock' : Timing) (place : ℕ) (entry : Entry)
    → Follow desk clock servings desk' clock' → (starts : StartsWith history (seen desk'))
    → of_session desk.number starts.0 ≡ [] → of_session desk.number (seen desk) ≡ []
    → slice_get history place ≡ Some entry → entry.session ≡ desk.number → Any (IsWithin place) (sessions_in servings)
all_within history desk clock servings desk' clock' place entry follow starts none unseen at bears =
    let before = starts_before history desk desk' (follow_goes_on desk clock servings desk' clock' follow) starts in
    ⊎_elim (λ high. absurd (not_seen desk.number history desk place entry before unseen high at bears))
    (λ low.
    within desk.number history desk clock servings desk' clock' place entry refl follow starts none low at bears)
    (cases_lt place (length (seen desk)))
