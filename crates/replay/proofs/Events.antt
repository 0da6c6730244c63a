-- An event step by step, and events one after the other.
use Rattle.std.proofs.Common.{◌≡◌, ℕ, suc, ◌+◌, Bool, true, false, ◌||◌, if◌then◌else◌, Option, Some, None, List, [], length, drop, refl, sym, ap, ◌∙◌}
use Rattle.request_data.specs.declared.report.Start.{Start}
use Rattle.request_data.specs.declared.request.Request.TheVariants.{Pass}
use Rattle.std.specs.List.{filter_map}
use Rattle.ctl_state.specs.State.{State}
use Rattle.node_daemon.specs.Turn.{root}
use Rattle.trace_text.specs.declared.submission.Submission.{Submission}
use Rattle.replay.specs.Replay.{Standing, begun, behind, called_by, cleared, ended_starts, event, event_at, events, due_round, first_moment, is_over, launched, leads_to, most_events, next_moment, nodes_asked, passed, played_behind_call, played_behind_round, played_of, replayed, round_behind, rows_of, standing, state_behind_call, state_behind_round, told, turned, with_due, with_round}
use Rattle.replay.specs.declared.handing.Course.{Course}
use Rattle.replay.specs.declared.pace.Pace.{Pace}
use Rattle.replay.specs.declared.played.Played.{Played}
use Rattle.replay.specs.declared.turns.Round.{Round}
use Rattle.replay.specs.declared.turns.Round.TheVariants.{Ending, Others}

turned_is : (round : Round) (now : ℕ) (ended : List Start) (s s' : State) (played played' : List Played) (course : Course)
    → s' ≡ state_behind_round round now ended s played → played' ≡ played_behind_round round now ended s played
    → standing s' played' course ≡ turned round now ended (standing s played course)
turned_is round now ended s s' played played' course states daemons =
    ap (λ t. standing t played' course) states
    ∙ ap (λ ps. standing (state_behind_round round now ended s played) ps course) daemons

pub cleared_is : (due : Round) (now : ℕ) (ended : List Start) (s0 s1 s2 s3 : State) (p0 p1 p2 p3 : List Played) (course : Course)
    → ended ≡ ended_starts now p0 → due ≡ due_round now (standing s0 p0 course)
    → s1 ≡ state_behind_round Ending now ended s0 p0 → p1 ≡ played_behind_round Ending now ended s0 p0
    → s2 ≡ state_behind_round Others now ended s1 p1 → p2 ≡ played_behind_round Others now ended s1 p1
    → s3 ≡ state_behind_round due now ended s2 p2 → p3 ≡ played_behind_round due now ended s2 p2
    → standing s3 p3 course ≡ cleared now (standing s0 p0 course)
unfolding cleared
cleared_is due now ended s0 s1 s2 s3 p0 p1 p2 p3 course ends is_due states1 played1 states2 played2 states3 played3 =
    let at = standing s0 p0 course in
    turned_is due now ended s2 s3 p2 p3 course states3 played3
    ∙ ap (turned due now ended) (turned_is Others now ended s1 s2 p1 p2 course states2 played2)
    ∙ ap (λ r. turned due now ended (turned Others now ended r)) (turned_is Ending now ended s0 s1 p0 p1 course states1 played1)
    ∙ ap (λ r. turned r now ended (turned Others now ended (turned Ending now ended at))) is_due
    ∙ ap (λ e. turned (due_round now at) now e (turned Others now e (turned Ending now e at))) ends

called_is : (round : Round) (now : ℕ) (s s' : State) (played played' : List Played) (course : Course)
    → s' ≡ state_behind_call round now s → played' ≡ played_behind_call round now s played
    → standing s' played' course ≡ called_by round now (standing s played course)
called_is round now s s' played played' course states daemons =
    ap (λ t. standing t played' course) states
    ∙ ap (λ ps. standing (state_behind_call round now s) ps course) daemons

pub launched_is : (pace : Pace) (now : ℕ) (round : Round) (s0 s1 s2 s3 : State) (p0 p1 p2 : List Played) (c0 c1 c2 : Course)
    → standing s1 p0 c1 ≡ passed now (standing s0 p0 c0) → round ≡ round_behind (told root now Pass s0)
    → s2 ≡ state_behind_call round now s1 → p1 ≡ played_behind_call round now s1 p0
    → s3 ≡ state_behind_round round now [] s2 p1 → p2 ≡ played_behind_round round now [] s2 p1
    → standing s3 p2 c2 ≡ with_round pace.reports round now (standing s3 p2 c1)
    → standing s3 p2 c2 ≡ launched pace now (standing s0 p0 c0)
unfolding launched
launched_is pace now round s0 s1 s2 s3 p0 p1 p2 c0 c1 c2 pass behind calls called states daemons noted =
    let at = standing s0 p0 c0 in
    noted
    ∙ ap (with_round pace.reports round now) (turned_is round now [] s2 s3 p1 p2 c1 states daemons)
    ∙ ap (λ r. with_round pace.reports round now (turned round now [] r)) (called_is round now s1 s2 p0 p1 c1 calls called)
    ∙ ap (λ r. with_round pace.reports round now (turned round now [] (called_by round now r))) pass
    ∙ ap (λ r. with_round pace.reports r now (turned r now [] (called_by r now (passed now at)))) behind

pub event_is : (pace : Pace) (now : ℕ) (round : Round) (submissions waiting : List Submission) (s0 s1 s2 s3 : State)
    (p0 p1 p2 : List Played) (c0 c1 c2 c3 : Course)
    → now ≡ next_moment pace submissions (standing s0 p0 c0)
    → waiting ≡ drop (length c0.replies.items) submissions
    → round ≡ due_round now (standing s0 p0 c0)
    → standing s1 p1 c0 ≡ cleared now (standing s0 p0 c0)
    → standing s1 p1 c1 ≡ with_round pace.reports round now (standing s1 p1 c0)
    → standing s2 p1 c2 ≡ with_due now (standing s1 p1 c1) waiting
    → standing s3 p2 c3 ≡ launched pace now (standing s2 p1 c2)
    → standing s3 p2 c3 ≡ event pace submissions (standing s0 p0 c0)
unfolding event
event_is pace now round submissions waiting s0 s1 s2 s3 p0 p1 p2 c0 c1 c2 c3 moment left first clears noted handed launches =
    let at = standing s0 p0 c0 in
    let begun : standing s1 p1 c1 ≡ with_round pace.reports (due_round now at) now (cleared now at) =
    noted ∙ ap (with_round pace.reports round now) clears ∙ ap (λ r. with_round pace.reports r now (cleared now at)) first in
    let given : standing s2 p1 c2
    ≡ with_due now (with_round pace.reports (due_round now at) now (cleared now at)) (drop (length c0.replies.items) submissions) =
    handed ∙ ap (λ r. with_due now r waiting) begun
    ∙ ap (with_due now (with_round pace.reports (due_round now at) now (cleared now at))) left in
    let whole : standing s3 p2 c3 ≡ event_at pace now submissions at = launches ∙ ap (launched pace now) given in
    whole ∙ ap (λ n. event_at pace n submissions at) moment

pub most_events_is : most_events ≡ 1000000000
unfolding most_events
most_events_is = refl

-- the last event is the one behind which all is over
pub ends_here : (n m : ℕ) (pace : Pace) (submissions : List Submission) (at after : Standing) (whole : Option Standing)
    → n ≡ suc m → events n pace submissions at ≡ whole → after ≡ event pace submissions at
    → true ≡ is_over submissions after → whole ≡ Some after
ends_here n m pace submissions at after whole some leads is over =
    sym leads ∙ ap (λ k. events k pace submissions at) some
    ∙ ap (λ (r : Standing). if is_over submissions r then Some r else events m pace submissions r) (sym is)
    ∙ rw (sym over) refl

-- otherwise the others lead to where it does
pub goes_on : (n m : ℕ) (pace : Pace) (submissions : List Submission) (at after : Standing) (whole : Option Standing)
    → n ≡ suc m → events n pace submissions at ≡ whole → after ≡ event pace submissions at
    → false ≡ is_over submissions after → events m pace submissions after ≡ whole
goes_on n m pace submissions at after whole some leads is more =
    sym (sym leads ∙ ap (λ k. events k pace submissions at) some
    ∙ ap (λ (r : Standing). if is_over submissions r then Some r else events m pace submissions r) (sym is)
    ∙ rw (sym more) refl)

-- no event is left
pub no_more : (n : ℕ) (pace : Pace) (submissions : List Submission) (at : Standing) → n ≡ 0
    → events n pace submissions at ≡ None
no_more n pace submissions at none = ap (λ k. events k pace submissions at) none

-- where it stops behind an event, what is left leads to where it did
pub stops_here : (n m : ℕ) (pace : Pace) (submissions : List Submission) (at : Standing) (s : State) (played : List Played)
    (course : Course) (over : Bool) (whole : Option Standing)
    → n ≡ suc m → events n pace submissions at ≡ whole → standing s played course ≡ event pace submissions at
    → over ≡ is_over submissions (standing s played course)
    → leads_to pace submissions s (record { played = played; course = course; left = m; over = over }) ≡ whole
unfolding leads_to
stops_here n m pace submissions at s played course true whole some leads is over =
    sym (ends_here n m pace submissions at (standing s played course) whole some leads is over)
stops_here n m pace submissions at s played course false whole some leads is more =
    goes_on n m pace submissions at (standing s played course) whole some leads is more

-- it isn't over where it doesn't stop
pub first_false : (over rests : Bool) → (over || rests) ≡ false → false ≡ over
first_false true rests none = cc
first_false false rests none = refl

-- it begins with all events left
pub begins_there : (n : ℕ) (pace : Pace) (submissions : List Submission) (s s' : State) (played : List Played) (course : Course)
    → n ≡ most_events → standing s' played course ≡ begun (first_moment submissions) s
    → leads_to pace submissions s' (record { played = played; course = course; left = n; over = false })
    ≡ replayed pace submissions s
unfolding leads_to replayed
begins_there n pace submissions s s' played course all is =
    ap (λ k. events k pace submissions (standing s' played course)) all ∙ ap (events most_events pace submissions) is

pub begun_is : (now first : ℕ) (s s' : State) (played : List Played) (course : Course) → now ≡ first
    → s' ≡ behind root now nodes_asked s → played ≡ filter_map played_of (rows_of (told root now nodes_asked s))
    → course.replies.items ≡ [] → course.moment ≡ now → course.busy ≡ false → course.round_at ≡ now
    → standing s' played course ≡ begun first s
begun_is now first s s' played course is states daemons none at idle round =
    rw (states, daemons, none, at, idle, round, is) refl
