-- A simulation: the jobs of a generated script on a cluster, whose nodes' daemons report every half minute until all
-- of the jobs are over. All is asked by root, as anyone might who watches.
use Rattle.std.specs.Prelude.{ℕ, zero, suc, ◌+◌, ◌-◌, ◌^◌, min, Bool, true, false, nat_eq, if◌then◌else◌, Option, Some, None, List, [], ◌∷◌, ◌++◌, map, filter, filter_map, fold, length, codes, decimal}
use Rattle.request_data.specs.declared.query.Query.TheVariants.{ShowJob, ShowNode}
use Rattle.reply_data.specs.declared.reply.Reply.{Reply}
use Rattle.reply_data.specs.declared.reply.Reply.TheVariants.{Passed, Shown}
use Rattle.request_data.specs.declared.request.Request.{Request}
use Rattle.request_data.specs.declared.request.Request.TheVariants.{Pass, Show}
use Rattle.request_data.specs.declared.state.Final.TheVariants.{Completed, Timeout}
use Rattle.request_data.specs.declared.state.JobState.{JobState}
use Rattle.request_data.specs.declared.state.JobState.TheVariants.{Ended}
use Rattle.reply_data.specs.declared.view.EndAt.{EndAt}
use Rattle.reply_data.specs.declared.view.EndAt.TheVariants.{At}
use Rattle.reply_data.specs.declared.view.Row.{Row}
use Rattle.reply_data.specs.declared.view.Row.TheVariants.{Job, Node}
use Rattle.block_frame.specs.declared.form.Form.TheVariants.{Plain}
use Rattle.block_frame.specs.Grammar.{blocks_of}
use Rattle.command_words.specs.declared.header.Meaning.{Meaning}
use Rattle.command_words.specs.declared.header.Meaning.TheVariants.{Asks}
use Rattle.ctl_state.specs.State.{State}
use Rattle.ctl_core.specs.Step.{reply_of, state_after}
use Rattle.ctl_session.specs.Meaning.{meaning_of, state_behind}
use Rattle.generator.specs.Generated.{generated}
use Rattle.node_daemon.specs.Daemon.{Daemon, polled, started}
use Rattle.node_daemon.specs.Turn.{after_reply, report_at, root}
use Rattle.simulation.specs.declared.tally.Tally.{Tally}

-- what root is told that asks this at a moment
unfoldable pub told : ℕ → Request → State → Reply
told now request s = reply_of s now root request

-- the state behind that
unfoldable pub behind : ℕ → Request → State → State
behind now request s = state_after s now root request

-- numbers are counted up to the greatest of 64 bits
abbrev pub counted : ℕ → ℕ → ℕ
counted number more = min (number + more) (2 ^ 64 - 1)

-- nothing was counted yet
abbrev pub nothing_counted : Tally
nothing_counted = record { moment = 0; started = 0; completed = 0; timeout = 0; left = 0 }

-- the tally once this was replied at a moment: a pass tells how many jobs it started
abbrev pub tallied : ℕ → Reply → Tally → Tally
tallied now (Passed ended started planned) tally =
    record tally { moment = now; started = counted tally.started started }
tallied now reply tally = record tally { moment = now }

-- The cluster under way: the state, and what was counted so far.
pub record Standing : Type 0 where
  pub state : State
  pub tally : Tally

-- the tally behind a block of a script
abbrev pub tally_behind : State → Meaning → Tally → Tally
tally_behind s (Asks asked) tally =
    tallied asked.moment (reply_of s asked.moment asked.user asked.request) tally
tally_behind s meaning tally = tally

-- where a block of a script leads
unfoldable pub behind_block : Standing → Meaning → Standing
behind_block at meaning = record {
  state = state_behind at.state meaning;
  tally = tally_behind at.state meaning at.tally;
}

-- where a script's blocks lead
abbrev pub behind_blocks : Standing → List Meaning → Standing
behind_blocks at meanings = fold behind_block at meanings

-- where a script leads
unfoldable pub behind_script : Standing → List ℕ → Standing
behind_script at script = behind_blocks at (map meaning_of (blocks_of Plain script))

-- The cluster with its nodes' daemons, in order.
pub record Simulated : Type 0 where
  pub state : State
  pub daemons : List Daemon
  pub tally : Tally

-- the state behind the turn of a daemon
abbrev pub state_behind_turn : ℕ → State → Daemon → State
state_behind_turn now s daemon = behind now (report_at now daemon) s

-- the daemon behind its turn
abbrev pub daemon_behind_turn : ℕ → State → Daemon → Daemon
daemon_behind_turn now s daemon = after_reply now (told now (report_at now daemon) s) (polled now daemon)

-- the state behind the turns of daemons, one after the other
abbrev pub state_behind_turns : ℕ → State → List Daemon → State
state_behind_turns now s daemons = fold (state_behind_turn now) s daemons

-- the daemons behind their turns
abbrev pub daemons_behind_turns : ℕ → State → List Daemon → List Daemon
daemons_behind_turns now s [] = []
daemons_behind_turns now s (daemon ∷ daemons) =
    daemon_behind_turn now s daemon ∷ daemons_behind_turns now (state_behind_turn now s daemon) daemons

-- each daemon has its turn
abbrev pub turned : ℕ → Simulated → Simulated
turned now sim = record sim {
  state = state_behind_turns now sim.state sim.daemons;
  daemons = daemons_behind_turns now sim.state sim.daemons;
}

-- a pass follows
abbrev pub passed : ℕ → Simulated → Simulated
passed now sim = record sim {
  state = behind now Pass sim.state;
  tally = tallied now (told now Pass sim.state) sim.tally;
}

-- the records that a reply shows
abbrev pub rows_of : Reply → List Row
rows_of (Shown view) = view.rows
rows_of reply = []

-- the job isn't over
abbrev pub is_unfinished : JobState → Bool
is_unfinished (Ended final) = false
is_unfinished state = true

unfoldable pub is_left : Row → Bool
is_left (Job row) = is_unfinished row.state
is_left row = false

abbrev pub has_completed : JobState → Bool
has_completed (Ended Completed) = true
has_completed state = false

abbrev pub has_timed_out : JobState → Bool
has_timed_out (Ended Timeout) = true
has_timed_out state = false

-- the end is at this moment
abbrev pub is_end : ℕ → EndAt → Bool
is_end now (At second) = nat_eq second now
is_end now end = false

-- the job of the row ended at this moment, and is completed
abbrev pub completes : ℕ → Row → Bool
completes now (Job row) = if has_completed row.state then is_end now row.end else false
completes now row = false

-- the job of the row ended at this moment, since it reached its time limit
abbrev pub times_out : ℕ → Row → Bool
times_out now (Job row) = if has_timed_out row.state then is_end now row.end else false
times_out now row = false

-- how many of the records are such
abbrev pub count_of : (Row → Bool) → List Row → ℕ
count_of is_such rows = length (filter is_such rows)

-- the tally once the jobs were looked at: what ended at its moment, and what is left
abbrev pub looked : List Row → Tally → Tally
looked rows tally = record tally {
  completed = counted tally.completed (count_of (completes tally.moment) rows);
  timeout = counted tally.timeout (count_of (times_out tally.moment) rows);
  left = count_of is_left rows;
}

-- "scontrol show job"
abbrev pub jobs_asked : Request
jobs_asked = Show (ShowJob None)

-- the jobs are looked at
abbrev pub looked_at : ℕ → Simulated → Simulated
looked_at now sim = record sim {
  state = behind now jobs_asked sim.state;
  tally = looked (rows_of (told now jobs_asked sim.state)) sim.tally;
}

-- A round: half a minute later each daemon has its turn, a pass follows, and the jobs are looked at.
unfoldable pub round : Simulated → Simulated
round sim =
    let now = counted sim.tally.moment 30 in
    looked_at now (passed now (turned now sim))

-- Rounds, until no job is left; none where a job is left behind so many of them.
abbrev pub rounds : ℕ → Simulated → Option Simulated
rounds zero sim = None
rounds (suc n) sim = if nat_eq (round sim).tally.left 0 then Some (round sim) else rounds n (round sim)

-- the most rounds that are made
unfoldable pub most_rounds : ℕ
most_rounds = 300000

-- "scontrol show node"
abbrev pub nodes_asked : Request
nodes_asked = Show (ShowNode None)

-- the daemon of the record's node: it was just started, for the first time
abbrev pub daemon_of : Row → Option Daemon
daemon_of (Node row) = Some (started row.name 1)
daemon_of row = None

-- the daemons of the nodes that a reply shows
abbrev pub daemons_of : Reply → List Daemon
daemons_of reply = filter_map daemon_of (rows_of reply)

-- the daemons start
abbrev pub with_daemons : ℕ → Standing → Simulated
with_daemons now at = record {
  state = behind now nodes_asked at.state;
  daemons = daemons_of (told now nodes_asked at.state);
  tally = at.tally;
}

-- The simulation of the jobs of a number from a state on: the script that the number stands for is answered while no
-- daemon reports, and then rounds are made.
unfoldable pub simulated : State → ℕ → Option Simulated
simulated s number =
    let at = behind_script (record { state = s; tally = nothing_counted }) (generated number) in
    rounds most_rounds (with_daemons at.tally.moment at)

-- the line that tells of it: how many jobs started, were completed, reached their limit; and the last moment
unfoldable pub summary : Tally → List ℕ
summary tally =
    codes "generated 500 started " ++ decimal tally.started ++ codes " completed " ++ decimal tally.completed
    ++ codes " timeout " ++ decimal tally.timeout ++ codes " last " ++ decimal tally.moment ++ codes "\n"
