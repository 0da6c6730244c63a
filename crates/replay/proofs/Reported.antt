-- The numbers of the daemons' reports along a replay.
use Rattle.std.proofs.Common.{◌≡◌, ℕ, zero, suc, ◌+◌, ◌<◌, ◌≤◌, ◌^◌, Bool, true, false, if◌then◌else◌, List, [], ◌∷◌, refl, ap, sym, subst, ◌∙◌, arith, All, slice_get}
use Rattle.std.specs.List.{filter_map, cons_option, list_any}
use Rattle.std.proofs.lemmas.List.Elements.{All-nil, All-head, All-tail, All-cons, All-weaker}
use Rattle.reply_data.specs.declared.reply.Reply.{Reply}
use Rattle.reply_data.specs.declared.reply.Reply.TheVariants.{Orders as Ordered}
use Rattle.reply_data.specs.declared.view.Row.{Row}
use Rattle.reply_data.specs.declared.view.Row.TheVariants.{Node}
use Rattle.request_data.specs.declared.report.Start.{Start}
use Rattle.ctl_state.specs.State.{State}
use Rattle.node_daemon.specs.Daemon.{Daemon, is_among, polled, started}
use Rattle.node_daemon.specs.Turn.{after_reply, report_at, root}
use Rattle.replay.specs.Replay.{HaveReported, IsFew, called_from, called_one, has_ended, played_behind_call, played_behind_round, played_behind_several, played_behind_turn, played_of, nodes_asked, rows_of, state_behind_several, state_behind_turn, told, turns_of}
use Rattle.replay.specs.declared.played.Played.{Played}
use Rattle.replay.specs.declared.played.Run.{Run}
use Rattle.replay.specs.declared.turns.Round.{Round}
use Rattle.replay.specs.declared.turns.Round.TheVariants.{Called, Each, Ending, Others}

number_kept : (now : ℕ) (reply : Reply) (daemon : Daemon)
    → (after_reply now reply (polled now daemon)).number ≡ daemon.number + 1
number_kept now (Ordered orders) daemon = refl
number_kept now reply daemon = refl

one_more : (now : ℕ) (s : State) (one : Played) → (played_behind_turn now s one).daemon.number ≡ one.daemon.number + 1
one_more now s one = number_kept now (told root now (report_at now one.daemon) s) one.daemon

-- a turn is one report
pub number_behind_turn : (now : ℕ) (s : State) (one one' : Played) → one' ≡ played_behind_turn now s one
    → one'.daemon.number ≡ one.daemon.number + 1
number_behind_turn now s one one' is = ap (λ (d : Played). d.daemon.number) is ∙ one_more now s one

number_behind_several : (n now : ℕ) (s : State) (one : Played)
    → (played_behind_several n now s one).daemon.number ≡ one.daemon.number + n
number_behind_several zero now s one = omega arith
number_behind_several (suc n) now s one =
    let others = number_behind_several n now (state_behind_turn now s one) (played_behind_turn now s one) in
    omega (arith, others, one_more now s one)

one_or_none : (b : Bool) → (if b then 1 else 0) ≤ 2
one_or_none true = omega arith
one_or_none false = omega arith

two_or_none : (b : Bool) → (if b then 2 else 0) ≤ 2
two_or_none true = omega arith
two_or_none false = omega arith

-- a round is two turns at the most
pub few_turns : (round : Round) (now : ℕ) (ended : List Start) (one : Played) → IsFew round
    → turns_of round now ended one ≤ 2
few_turns (Each n) now ended one few = few
few_turns Ending now ended one few = one_or_none (list_any (has_ended now) one.runs)
few_turns Called now ended one few = one_or_none one.called
few_turns Others now ended one few = two_or_none (list_any (λ (run : Run). is_among ended run.start) one.runs)

-- what holds of a number and of both behind it, if it holds of that of a daemon, holds behind a round
numbers_behind : (P Q : ℕ → Type 0) → ((n k : ℕ) → k ≤ 2 → P n → Q (n + k))
    → (round : Round) (now : ℕ) (ended : List Start) (s : State) (played : List Played) → IsFew round
    → All (λ (one : Played). P one.daemon.number) played
    → All (λ (one : Played). Q one.daemon.number) (played_behind_round round now ended s played)
numbers_behind P Q leads round now ended s [] few all = All-nil (λ (one : Played). Q one.daemon.number)
numbers_behind P Q leads round now ended s (one ∷ others) few all =
    let Now = λ (d : Played). P d.daemon.number in
    let n = turns_of round now ended one in
    All-cons (λ (d : Played). Q d.daemon.number) (played_behind_several n now s one)
    (played_behind_round round now ended (state_behind_several n now s one) others)
    (subst Q (sym (number_behind_several n now s one))
    (leads one.daemon.number n (few_turns round now ended one few) (All-head Now one others all)))
    (numbers_behind P Q leads round now ended (state_behind_several n now s one) others few (All-tail Now one others all))

-- so many more reports have numbers of 64 bits
abbrev pub HaveRoom : ℕ → List Played → Type 0
HaveRoom m played = All (λ (one : Played). one.daemon.number + m < 2 ^ 64) played

pub less_room : (m n : ℕ) (played : List Played) → n ≤ m → HaveRoom m played → HaveRoom n played
less_room m n played less all =
    All-weaker (λ (d : Played). d.daemon.number + m < 2 ^ 64) (λ (d : Played). d.daemon.number + n < 2 ^ 64)
    (λ d small. omega (arith, small, less)) played all

-- a round takes two of them at the most
pub room_behind : (m n : ℕ) (round : Round) (now : ℕ) (ended : List Start) (s : State) (played after : List Played)
    → n + 2 ≤ m → IsFew round → after ≡ played_behind_round round now ended s played → HaveRoom m played → HaveRoom n after
room_behind m n round now ended s played after less few is all =
    subst (HaveRoom n) (sym is)
    (numbers_behind (λ k. k + m < 2 ^ 64) (λ k. k + n < 2 ^ 64) (λ k t small room. omega (arith, small, room, less)) round now
    ended s played few all)

pub reported_behind : (n : ℕ) (round : Round) (now : ℕ) (ended : List Start) (s : State) (played after : List Played)
    → IsFew round → after ≡ played_behind_round round now ended s played → HaveReported n played
    → HaveReported (n + 2) after
reported_behind n round now ended s played after few is all =
    subst (HaveReported (n + 2)) (sym is)
    (numbers_behind (λ k. k ≤ n) (λ k. k ≤ n + 2) (λ k t small most. omega (arith, small, most)) round now ended s played few
    all)

pub reported_thrice : (n : ℕ) (due : Round) (now : ℕ) (ended : List Start) (s t u : State) (p0 p1 p2 p3 : List Played)
    → IsFew due → p1 ≡ played_behind_round Ending now ended s p0 → p2 ≡ played_behind_round Others now ended t p1
    → p3 ≡ played_behind_round due now ended u p2 → HaveReported n p0 → HaveReported (n + 6) p3
reported_thrice n due now ended s t u p0 p1 p2 p3 few first second third all =
    let six : n + 2 + 2 + 2 ≡ n + 6 = omega arith in
    subst (λ k. HaveReported k p3) six
    (reported_behind (n + 2 + 2) due now ended u p2 p3 few third
    (reported_behind (n + 2) Others now ended t p1 p2 tt second (reported_behind n Ending now ended s p0 p1 tt first all)))

pub room_behind_thrice : (due : Round) (now : ℕ) (ended : List Start) (s t u : State) (p0 p1 p2 p3 : List Played)
    → IsFew due → p1 ≡ played_behind_round Ending now ended s p0 → p2 ≡ played_behind_round Others now ended t p1
    → p3 ≡ played_behind_round due now ended u p2 → HaveRoom 8 p0 → HaveRoom 2 p3
room_behind_thrice due now ended s t u p0 p1 p2 p3 few first second third all =
    room_behind 4 2 due now ended u p2 p3 (omega arith) few third
    (room_behind 6 4 Others now ended t p1 p2 (omega arith) tt second
    (room_behind 8 6 Ending now ended s p0 p1 (omega arith) tt first all))

-- what holds of the numbers of reports does so of those that are called
called_kept : (P : ℕ → Type 0) (rows : List Row) (place : ℕ) (played : List Played)
    → All (λ (one : Played). P one.daemon.number) played
    → All (λ (one : Played). P one.daemon.number) (called_from rows place played)
called_kept P rows place [] all = all
called_kept P rows place (one ∷ others) all =
    let Now = λ (d : Played). P d.daemon.number in
    All-cons Now (called_one (slice_get rows place) one) (called_from rows (place + 1) others)
    (All-head Now one others all) (called_kept P rows (place + 1) others (All-tail Now one others all))

call_kept : (P : ℕ → Type 0) (round : Round) (now : ℕ) (s : State) (played : List Played)
    → All (λ (one : Played). P one.daemon.number) played
    → All (λ (one : Played). P one.daemon.number) (played_behind_call round now s played)
call_kept P Called now s played all = called_kept P (rows_of (told root now nodes_asked s)) 0 played all
call_kept P round now s played all = all

pub room_called : (m : ℕ) (round : Round) (now : ℕ) (s : State) (played after : List Played)
    → after ≡ played_behind_call round now s played → HaveRoom m played → HaveRoom m after
room_called m round now s played after is all =
    subst (HaveRoom m) (sym is) (call_kept (λ k. k + m < 2 ^ 64) round now s played all)

pub reported_called : (n : ℕ) (round : Round) (now : ℕ) (s : State) (played after : List Played)
    → after ≡ played_behind_call round now s played → HaveReported n played → HaveReported n after
reported_called n round now s played after is all =
    subst (HaveReported n) (sym is) (call_kept (λ k. k ≤ n) round now s played all)

pub few_reports : (n : ℕ) (played : List Played) → n + 8 < 2 ^ 64 → HaveReported n played → HaveRoom 8 played
few_reports n played few all =
    All-weaker (λ (d : Played). d.daemon.number ≤ n) (λ (d : Played). d.daemon.number + 8 < 2 ^ 64)
    (λ d most. omega (arith, most, few)) played all

-- a daemon that was just started has made none
pub new_daemons : (rows : List Row) → HaveReported 0 (filter_map played_of rows)
new_daemons [] = All-nil (λ (d : Played). d.daemon.number ≤ 0)
new_daemons (row ∷ rows) = by row (new_daemons rows) where
  by : (row : Row) → HaveReported 0 (filter_map played_of rows)
      → HaveReported 0 (cons_option (played_of row) (filter_map played_of rows))
  by (Node node) others =
      All-cons (λ (d : Played). d.daemon.number ≤ 0) (record { daemon = started node.name 1; runs = []; launched = []; called = false })
      (filter_map played_of rows) (omega arith) others
  by other others = others
