-- What a user is told, and what it leaves.
use Rattle.std.proofs.Common.{◌≡◌, ℕ, List, ◌++◌, ap, ◌∙◌}
use Rattle.std.specs.Prelude.{IsErrAnd, OnOk, Result, Ok, Err}
use Rattle.reply_data.specs.declared.reply.Reply.{Reply}
use Rattle.request_data.specs.declared.request.Request.{Request}
use Rattle.ctl_core.specs.Step.{reply_of, state_after}
use Rattle.ctl_desk.specs.declared.entry.Answer.{Answer}
use Rattle.ctl_desk.specs.Desk.{GoesOn, IsAnswered, Seat, history_of, sight_of, state_of}
use Rattle.ctl_desk.specs.History.{IsHistory}
use Rattle.node_daemon.specs.Daemon.{Daemon, polled}
use Rattle.node_daemon.specs.Turn.{after_reply, report_at, root}
use Rattle.replay.specs.Replay.{behind, played_behind_turn, runs_left, runs_ordered, told}
use Rattle.replay.specs.declared.played.Played.{Played}
use Rattle.replay.specs.declared.played.Run.{Run}

-- want of memory is passed on
pub passed_on : {X E : Type 0} (P : Type 0) (Q : E → Type 0) (result : Result X E) → IsErrAnd result Q → OnOk result P
passed_on P Q (Ok x) given = absurd given
passed_on P Q (Err e) given = tt

-- what is asked at a desk of its own is answered from its state
abbrev pub Follows : Type 0
Follows = (old new : Seat) (now : ℕ) (user : List ℕ) (request : Request) (answer : Answer)
    → IsHistory (history_of (sight_of old))
    → GoesOn (sight_of old) (sight_of new)
    → IsAnswered (sight_of old) (sight_of new) now user request answer
    → (answer.reply ≡ reply_of (state_of old) now user request)
    × (state_of new ≡ state_after (state_of old) now user request)

-- a user was answered
pub record IsTold (old new : Seat) (now : ℕ) (user : List ℕ) (request : Request) (reply : Reply) : Type 0 where
  pub answers : reply ≡ told user now request (state_of old)
  pub leads : state_of new ≡ behind user now request (state_of old)

pub is_told : Follows → (old new : Seat) (now : ℕ) (asker user : List ℕ) (request : Request) (answer : Answer)
    → asker ≡ user
    → IsHistory (history_of (sight_of old))
    → GoesOn (sight_of old) (sight_of new)
    → IsAnswered (sight_of old) (sight_of new) now asker request answer
    → IsTold old new now user request answer.reply
unfolding told behind
is_told follows old new now asker user request answer is_user history goes answered =
    let both = follows old new now asker request answer history goes answered in
    record {
      answers = both.0 ∙ ap (λ u. reply_of (state_of old) now u request) is_user;
      leads = both.1 ∙ ap (λ u. state_after (state_of old) now u request) is_user;
    }

-- a daemon had its turn, and what it was ordered is noted
pub played_told : (old new : Seat) (now : ℕ) (one : Played) (daemon : Daemon) (runs launched : List Run) (reply : Reply)
    → IsTold old new now root (report_at now one.daemon) reply → daemon ≡ after_reply now reply (polled now one.daemon)
    → runs ≡ runs_left now reply one.runs ++ runs_ordered now reply
    → launched ≡ one.launched ++ runs_ordered now reply
    → record { daemon = daemon; runs = runs; launched = launched; called = one.called } ≡ played_behind_turn now (state_of old) one
played_told old new now one daemon runs launched reply is daemon_is runs_are launched_are =
    let With : Daemon → List Run → List Run → Played = λ d r l. record { daemon = d; runs = r; launched = l; called = one.called } in
    ap (λ d. With d runs launched) daemon_is
    ∙ ap (λ r. With (after_reply now reply (polled now one.daemon)) r launched) runs_are
    ∙ ap (With (after_reply now reply (polled now one.daemon)) (runs_left now reply one.runs ++ runs_ordered now reply)) launched_are
    ∙ ap (λ (r : Reply). With (after_reply now r (polled now one.daemon)) (runs_left now r one.runs ++ runs_ordered now r)
    (one.launched ++ runs_ordered now r)) is.answers
