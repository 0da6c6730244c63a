-- A replay: what is handed in for a trace is worked at its moments at one desk, while the daemons of the cluster's nodes
-- run what they are ordered. Behind each event a pass is made.
use Rattle.std.specs.Prelude.{◌≡◌, ◌≤◌, All, ℕ, zero, suc, ◌+◌, ◌-◌, ◌^◌, min, max, Bool, false, ◌&&◌, ◌||◌, not, nat_eq, nat_lt, nat_le, if◌then◌else◌, Option, Some, None, option_map, unwrap_or, is_some, List, [], ◌∷◌, ◌++◌, map, filter, filter_map, flat_map, fold, length, drop, slice_get}
use Rattle.request_data.specs.declared.query.Query.TheVariants.{ShowJob, ShowNode}
use Rattle.request_data.specs.declared.report.Start.{Start}
use Rattle.request_data.specs.declared.request.Request.{Request}
use Rattle.request_data.specs.declared.request.Request.TheVariants.{Pass, Show, Submit}
use Rattle.reply_data.specs.declared.orders.Launch.{Launch}
use Rattle.reply_data.specs.declared.reply.Reply.{Reply}
use Rattle.reply_data.specs.declared.reply.Reply.TheVariants.{Orders, Passed, Shown}
use Rattle.reply_data.specs.declared.view.Row.{Row}
use Rattle.reply_data.specs.declared.view.Row.TheVariants.{Node}
use Rattle.ctl_state.specs.State.{State}
use Rattle.ctl_core.specs.Step.{reply_of, state_after}
use Rattle.node_daemon.specs.Daemon.{is_among, polled, started}
use Rattle.node_daemon.specs.Turn.{after_reply, report_at, root}
use Rattle.trace_text.specs.declared.submission.Submission.{Submission}
use Rattle.replay.specs.declared.handing.Course.{Course}
use Rattle.replay.specs.declared.pace.Pace.{Pace}
use Rattle.replay.specs.declared.played.Played.{Played}
use Rattle.replay.specs.declared.played.Run.{Run}
use Rattle.replay.specs.declared.replaying.Rest.{Rest}
use Rattle.replay.specs.declared.turns.Round.{Round}
use Rattle.replay.specs.declared.turns.Round.TheVariants.{Called, Each, Ending, Others}
use Rattle.std.specs.List.{list_any}

-- what a user is told who asks this at a moment
unfoldable pub told : List ℕ → ℕ → Request → State → Reply
told user now request s = reply_of s now user request

-- the state behind that
unfoldable pub behind : List ℕ → ℕ → Request → State → State
behind user now request s = state_after s now user request

-- so many seconds later, up to the greatest moment that 64 bits hold
abbrev pub later : ℕ → ℕ → ℕ
later now seconds = min (now + seconds) (2 ^ 64 - 1)

-- what a launch brings: a start that ends by itself, or, where its script runs elsewhere, once it is killed
abbrev pub run_of : ℕ → Launch → Run
run_of now launch = record {
  start = launch.start;
  begun = now;
  end = option_map (λ run. later now run) launch.run;
  processors = length launch.cpus;
}

-- what orders bring
abbrev pub runs_ordered : ℕ → Reply → List Run
runs_ordered now (Orders orders) = map (run_of now) orders.launches
runs_ordered now reply = []

abbrev pub has_ended : ℕ → Run → Bool
has_ended now run = unwrap_or (option_map (λ end. nat_le end now) run.end) false

-- orders say to kill it
abbrev pub is_killed : Reply → Run → Bool
is_killed (Orders orders) run = is_among orders.kills run.start
is_killed reply run = false

-- the runs that go on
abbrev pub runs_left : ℕ → Reply → List Run → List Run
runs_left now reply runs = filter (λ run. not (has_ended now run) && not (is_killed reply run)) runs

-- the state behind the turn of a daemon: it reports, and is given its orders
abbrev pub state_behind_turn : ℕ → State → Played → State
state_behind_turn now s one = behind root now (report_at now one.daemon) s

-- the daemon behind it, what it runs, and what it was ordered to launch ever
abbrev pub played_behind_turn : ℕ → State → Played → Played
played_behind_turn now s one =
    let reply = told root now (report_at now one.daemon) s in
    record {
      daemon = after_reply now reply (polled now one.daemon);
      runs = runs_left now reply one.runs ++ runs_ordered now reply;
      launched = one.launched ++ runs_ordered now reply;
      called = one.called;
    }

-- the same of a daemon that has so many turns, one right after the other
abbrev pub state_behind_several : ℕ → ℕ → State → Played → State
state_behind_several zero now s one = s
state_behind_several (suc n) now s one =
    state_behind_several n now (state_behind_turn now s one) (played_behind_turn now s one)

abbrev pub played_behind_several : ℕ → ℕ → State → Played → Played
played_behind_several zero now s one = one
played_behind_several (suc n) now s one =
    played_behind_several n now (state_behind_turn now s one) (played_behind_turn now s one)

-- the starts that end by themselves at a moment, or did before
abbrev pub ended_start : ℕ → Run → Option Start
ended_start now run = if has_ended now run then Some run.start else None

abbrev pub ended_starts : ℕ → List Played → List Start
ended_starts now played = flat_map (λ (one : Played). filter_map (ended_start now) one.runs) played

-- How many turns a daemon has in a round: all of them so many; or one where something ends by itself, which it tells; or two
-- where it runs what has ended elsewhere: it is ordered to kill that, and tells that it is gone; or one where it was called.
abbrev pub turns_of : Round → ℕ → List Start → Played → ℕ
turns_of (Each n) now ended one = n
turns_of Ending now ended one = if list_any (has_ended now) one.runs then 1 else 0
turns_of Others now ended one = if list_any (λ (run : Run). is_among ended run.start) one.runs then 2 else 0
turns_of Called now ended one = if one.called then 1 else 0

-- none has more than two
abbrev pub IsFew : Round → Type 0
IsFew (Each n) = n ≤ 2
IsFew round = Unit {0}

-- the state behind a round in which the daemons have their turns one after the other, and the daemons
abbrev pub state_behind_round : Round → ℕ → List Start → State → List Played → State
state_behind_round round now ended s [] = s
state_behind_round round now ended s (one ∷ others) =
    state_behind_round round now ended (state_behind_several (turns_of round now ended one) now s one) others

abbrev pub played_behind_round : Round → ℕ → List Start → State → List Played → List Played
played_behind_round round now ended s [] = []
played_behind_round round now ended s (one ∷ others) =
    played_behind_several (turns_of round now ended one) now s one
    ∷ played_behind_round round now ended (state_behind_several (turns_of round now ended one) now s one) others

-- each daemon has made so many reports at the most
abbrev pub HaveReported : ℕ → List Played → Type 0
HaveReported n played = All (λ (one : Played). one.daemon.number ≤ n) played

-- what is asked for a submission
abbrev pub asked : Submission → Request
asked submission = Submit submission.desc

-- the state behind a submission that is handed in at a moment, and what its user is told
abbrev pub state_behind_one : ℕ → State → Submission → State
state_behind_one now s submission = behind submission.user now (asked submission) s

abbrev pub told_one : ℕ → State → Submission → Reply
told_one now s submission = told submission.user now (asked submission) s

-- A replay under way: the state, the daemons, what the users were told whose jobs were handed in, the last moment, whether the
-- last pass has more to come, and when all daemons report again.
pub record Standing : Type 0 where
  pub state : State
  pub played : List Played
  pub replies : List Reply
  pub moment : ℕ
  pub busy : Bool
  pub round_at : ℕ

-- one submission is handed in
abbrev pub with_one : ℕ → Standing → Submission → Standing
with_one now at submission = record at {
  state = state_behind_one now at.state submission;
  replies = at.replies ++ told_one now at.state submission ∷ [];
}

-- those of a list are handed in, as long as they are due
abbrev pub with_due : ℕ → Standing → List Submission → Standing
with_due now at [] = at
with_due now at (submission ∷ others) =
    if nat_le submission.moment now then with_due now (with_one now at submission) others else at

-- those that were not handed in yet
abbrev pub waiting : List Submission → Standing → List Submission
waiting submissions at = drop (length at.replies) submissions

-- the least of moments
abbrev pub least : ℕ → List Run → ℕ
least most runs = fold (λ m (run : Run). min m (unwrap_or run.end m)) most runs

abbrev pub least_end : ℕ → List Played → ℕ
least_end most played = fold (λ m (one : Played). least m one.runs) most played

-- the moment of the next submission, if one is left
abbrev pub next_submission : ℕ → List Submission → ℕ
next_submission most [] = most
next_submission most (submission ∷ others) = min most submission.moment

-- when an event comes at the latest behind one at a moment: all daemons report again, or the next pass is due
abbrev pub at_latest : Pace → ℕ → ℕ → ℕ
at_latest pace moment round_at = min round_at (later moment pace.passes)

-- The next moment: of the first end, of the next submission, or when an event comes at the latest; and never before the last one.
unfoldable pub next_moment : Pace → List Submission → Standing → ℕ
next_moment pace submissions at =
    max at.moment
    (next_submission (least_end (at_latest pace at.moment at.round_at) at.played) (waiting submissions at))

-- the daemons have a round
abbrev pub turned : Round → ℕ → List Start → Standing → Standing
turned round now ended at = record at {
  state = state_behind_round round now ended at.state at.played;
  played = played_behind_round round now ended at.state at.played;
}

-- a pass that started or planned something has more to come
abbrev pub is_busy : Reply → Bool
is_busy (Passed ended started planned) = nat_lt 0 started || nat_lt 0 planned
is_busy reply = false

-- a pass is made
abbrev pub passed : ℕ → Standing → Standing
passed now at = record at {
  state = behind root now Pass at.state;
  moment = now;
  busy = is_busy (told root now Pass at.state);
}

-- whether all daemons report, where it is time for that
abbrev pub due_round : ℕ → Standing → Round
due_round now at = if nat_le at.round_at now then Each 1 else Each 0

-- what has ended is told, the other nodes that ran it are cleared of it, and all report where that is due
unfoldable pub cleared : ℕ → Standing → Standing
cleared now at =
    let ended = ended_starts now at.played in
    turned (due_round now at) now ended (turned Others now ended (turned Ending now ended at))

-- the records that a reply shows
abbrev pub rows_of : Reply → List Row
rows_of (Shown view) = view.rows
rows_of reply = []

-- "scontrol show node" and "scontrol show job"
abbrev pub nodes_asked : Request
nodes_asked = Show (ShowNode None)

abbrev pub jobs_asked : Request
jobs_asked = Show (ShowJob None)

-- A pass that started something has its launches ordered: who has to launch something is called for that. Where it ended
-- something, as what was over its limit, all have their turns: that is killed, and told to be gone.
abbrev pub round_behind : Reply → Round
round_behind (Passed ended started planned) =
    if nat_lt 0 ended then Each 2 else (if nat_lt 0 started then Called else Each 0)
round_behind reply = Each 0

-- how many processors runs have on a node
abbrev pub processors_of : List Run → ℕ
processors_of runs = fold (λ count (run : Run). later count run.processors) 0 runs

-- the controller holds other processors of a node than its daemon runs on
abbrev pub holds_others : Option Row → List Run → Bool
holds_others (Some (Node row)) runs = not (nat_eq row.held (processors_of runs))
holds_others (Some row) runs = false
holds_others None runs = false

-- a daemon is called where that is so of its node
abbrev pub called_one : Option Row → Played → Played
called_one row one = record one { called = holds_others row one.runs }

-- those of the nodes from a place on
abbrev pub called_from : List Row → ℕ → List Played → List Played
called_from rows place [] = []
called_from rows place (one ∷ others) = called_one (slice_get rows place) one ∷ called_from rows (place + 1) others

-- behind a pass that started something the nodes are looked at, and who has to launch something is called
abbrev pub state_behind_call : Round → ℕ → State → State
state_behind_call Called now s = behind root now nodes_asked s
state_behind_call round now s = s

abbrev pub played_behind_call : Round → ℕ → State → List Played → List Played
played_behind_call Called now s played = called_from (rows_of (told root now nodes_asked s)) 0 played
played_behind_call round now s played = played

abbrev pub called_by : Round → ℕ → Standing → Standing
called_by round now at = record at {
  state = state_behind_call round now at.state;
  played = played_behind_call round now at.state at.played;
}

-- a round in which all report puts off the next one
abbrev pub put_off : ℕ → Round → ℕ → ℕ → ℕ
put_off interval (Each n) now round_at = if nat_lt 0 n then later now interval else round_at
put_off interval round now round_at = round_at

abbrev pub with_round : ℕ → Round → ℕ → Standing → Standing
with_round interval round now at = record at { round_at = put_off interval round now at.round_at }

-- a pass is made, and its orders are given
unfoldable pub launched : Pace → ℕ → Standing → Standing
launched pace now at =
    let round = round_behind (told root now Pass at.state) in
    with_round pace.reports round now (turned round now [] (called_by round now (passed now at)))

-- An event: ends are told, what is due is handed in, a pass is made, and what it started is launched.
abbrev pub event_at : Pace → ℕ → List Submission → Standing → Standing
event_at pace now submissions at =
    launched pace now (with_due now
    (with_round pace.reports (due_round now at) now (cleared now at)) (waiting submissions at))

unfoldable pub event : Pace → List Submission → Standing → Standing
event pace submissions at = event_at pace (next_moment pace submissions at) submissions at

-- something runs that ends by itself
abbrev pub is_running : Played → Bool
is_running one = list_any (λ (run : Run). is_some run.end) one.runs

-- whether nothing is left to be handed in or to end, and the last pass had nothing to start
unfoldable pub is_over : List Submission → Standing → Bool
is_over submissions at =
    nat_le (length submissions) (length at.replies) && not at.busy && not (list_any is_running at.played)

-- Events, until all is over; none where it isn't behind so many of them.
abbrev pub events : ℕ → Pace → List Submission → Standing → Option Standing
events zero pace submissions at = None
events (suc n) pace submissions at =
    if is_over submissions (event pace submissions at) then Some (event pace submissions at)
    else events n pace submissions (event pace submissions at)

-- the most events of a replay
unfoldable pub most_events : ℕ
most_events = 1_000_000_000

-- the daemon of the record's node: it was just started, for the first time
abbrev pub played_of : Row → Option Played
played_of (Node row) = Some (record { daemon = started row.name 1; runs = []; launched = []; called = false })
played_of row = None

-- what is kept of a replay beside the desk and the daemons
abbrev pub standing : State → List Played → Course → Standing
standing s played course = record {
  state = s;
  played = played;
  replies = course.replies.items;
  moment = course.moment;
  busy = course.busy;
  round_at = course.round_at;
}

-- before the first event, whose moment is that of the first submission: each node that is shown has its daemon
abbrev pub begun : ℕ → State → Standing
begun now s = record {
  state = behind root now nodes_asked s;
  played = filter_map played_of (rows_of (told root now nodes_asked s));
  replies = [];
  moment = now;
  busy = false;
  round_at = now;
}

abbrev pub first_moment : List Submission → ℕ
first_moment [] = 0
first_moment (submission ∷ others) = submission.moment

-- The replay of submissions from a state on, at a pace.
unfoldable pub replayed : Pace → List Submission → State → Option Standing
replayed pace submissions s = events most_events pace submissions (begun (first_moment submissions) s)

-- A replay that rests, beside the desk: the daemons, what is kept of it, how many events are left, and whether it is over.
pub record Progress : Type 0 where
  pub played : List Played
  pub course : Course
  pub left : ℕ
  pub over : Bool

-- Where it ends that goes on from a state: here where it is over, else where the events that are left lead.
unfoldable pub leads_to : Pace → List Submission → State → Progress → Option Standing
leads_to pace submissions s progress =
    if progress.over then Some (standing s progress.played progress.course)
    else events progress.left pace submissions (standing s progress.played progress.course)

-- whether it may rest at a moment, where the history has so many entries
abbrev pub may_rest : Option Rest → ℕ → ℕ → Bool
may_rest None moment entries = false
may_rest (Some rest) moment entries = nat_le rest.moment moment || nat_le rest.entries entries
