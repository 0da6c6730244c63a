-- The turns of daemons, one after the other.
use Rattle.std.proofs.Common.{◌≡◌, ℕ, suc, ◌+◌, ◌<◌, ◌≤◌, ◌^◌, List, [], ◌∷◌, ◌++◌, length, take, drop, set, refl, sym, ap, ◌∙◌, subst, arith, All}
use Rattle.std.proofs.Math.Seq.{drop-cons}
use Rattle.std.proofs.Math.ListN.{get_or}
use Rattle.std.proofs.lemmas.List.{append_assoc, append-nil, drop_all, get_or-drop, take_all, take_more_set, drop-set-lt}
use Rattle.std.proofs.lemmas.List.Elements.{All-nil, All-get_or, All-push}
use Rattle.reply_data.specs.declared.reply.Reply.{Reply}
use Rattle.reply_data.specs.declared.reply.Reply.TheVariants.{Orders as Ordered}
use Rattle.ctl_state.specs.State.{State}
use Rattle.node_daemon.specs.Daemon.{Daemon, polled}
use Rattle.node_daemon.specs.Turn.{after_reply, report_at}
use Rattle.simulation.specs.Run.{HaveReported}
use Rattle.simulation.specs.Simulation.{daemon_behind_turn, daemons_behind_turns, state_behind_turn, state_behind_turns}
use Rattle.simulation.proofs.Following.{IsTold}

-- a daemon had its turn
abbrev pub IsTurn : ℕ → Daemon → Daemon → State → State → Type 0
IsTurn now daemon after s s' = (s' ≡ state_behind_turn now s daemon) × (after ≡ daemon_behind_turn now s daemon)

pub daemon_told : (now : ℕ) (daemon after : Daemon) (reply : Reply) → after ≡ after_reply now reply (polled now daemon)
    → (s s' : State) → IsTold now (report_at now daemon) reply s s' → IsTurn now daemon after s s'
daemon_told now daemon after reply after_is s s' is =
    (is.1, after_is ∙ ap (λ (r : Reply). after_reply now r (polled now daemon)) is.0)

-- it has made one report more
pub number_kept : (now : ℕ) (reply : Reply) (daemon after : Daemon) → after ≡ after_reply now reply (polled now daemon)
    → after.number ≡ daemon.number + 1
number_kept now (Ordered orders) daemon after is = ap (λ (d : Daemon). d.number) is
number_kept now reply daemon after is = ap (λ (d : Daemon). d.number) is

-- The first daemons had their turns: the daemons as they were and as they are, and the state before and now.
pub record IsTurning (now : ℕ) (was daemons : List Daemon) (place : ℕ) (s0 s : State) : Type 0 where
  pub state : state_behind_turns now s (drop place was) ≡ state_behind_turns now s0 was
  pub done : take place daemons ++ daemons_behind_turns now s (drop place was) ≡ daemons_behind_turns now s0 was

pub turns_begin : (now : ℕ) (daemons : List Daemon) (s : State) → IsTurning now daemons daemons 0 s s
turns_begin now daemons s = record { state = refl; done = refl }

-- the first of those that are left
first_left : (was daemons : List Daemon) (place : ℕ) (default : Daemon) → place < length daemons
    → drop place daemons ≡ drop place was
    → drop place was ≡ get_or daemons place default ∷ drop (place + 1) daemons
first_left was daemons place default within left =
    let next : place + 1 ≡ suc place = omega arith in
    rw next (sym left ∙ drop-cons daemons place default within)

tail_is : {X : Type 0} (x y : X) (xs ys : List X) → x ∷ xs ≡ y ∷ ys → xs ≡ ys
tail_is x y xs ys e = cc

-- those behind it, before and now
others_left : (was daemons : List Daemon) (place : ℕ) (default : Daemon) → place < length daemons
    → place < length was
    → drop place daemons ≡ drop place was → drop (place + 1) daemons ≡ drop (place + 1) was
others_left was daemons place default within there left =
    let next : place + 1 ≡ suc place = omega arith in
    rw next (
    tail_is (get_or daemons place default) (get_or was place default) (drop (suc place) daemons) (drop (suc place) was)
    (sym (drop-cons daemons place default within) ∙ left ∙ drop-cons was place default there)
    )

pub still_left : (was daemons : List Daemon) (place : ℕ) (default after : Daemon) → place < length daemons
    → place < length was
    → drop place daemons ≡ drop place was → drop (place + 1) (set daemons place after) ≡ drop (place + 1) was
still_left was daemons place default after within there left =
    let one : place < place + 1 = omega arith in
    drop-set-lt (place + 1) daemons place after one ∙ others_left was daemons place default within there left

pub turns_go_on : (now : ℕ) (was daemons : List Daemon) (place : ℕ) (default after : Daemon) → place < length daemons
    → place < length was
    → drop place daemons ≡ drop place was
    → (s0 s s' : State)
    → IsTurning now was daemons place s0 s
    → IsTurn now (get_or daemons place default) after s s'
    → IsTurning now was (set daemons place after) (place + 1) s0 s'
turns_go_on now was daemons place default after within there left s0 s s' turning turns =
    let daemon = get_or daemons place default in
    let others = drop (place + 1) was in
    let same : drop (place + 1) daemons ≡ others = others_left was daemons place default within there left in
    let first : drop place was ≡ daemon ∷ others =
    first_left was daemons place default within left ∙ ap (λ ds. daemon ∷ ds) same in
    let front : take (place + 1) (set daemons place after) ≡ take place daemons ++ after ∷ [] =
    take_more_set daemons place after within in
    record {
      state =
          ap (λ t. state_behind_turns now t others) turns.0
          ∙ ap (state_behind_turns now s) (sym first)
          ∙ turning.state;
      done =
          ap (λ ds. ds ++ daemons_behind_turns now s' others) front
          ∙ append_assoc (take place daemons) (after ∷ []) (daemons_behind_turns now s' others)
          ∙ ap (λ d. take place daemons ++ d ∷ daemons_behind_turns now s' others) turns.1
          ∙ ap (λ t. take place daemons ++ daemon_behind_turn now s daemon ∷ daemons_behind_turns now t others) turns.0
          ∙ ap (λ ds. take place daemons ++ daemons_behind_turns now s ds) (sym first)
          ∙ turning.done;
    }

-- the first of those that are left is as it was
same_there : (was daemons : List Daemon) (place : ℕ) (default : Daemon) → drop place daemons ≡ drop place was
    → get_or daemons place default ≡ get_or was place default
same_there was daemons place default left =
    let here : place + 0 ≡ place = omega arith in
    ap (λ n. get_or daemons n default) (sym here) ∙ sym (get_or-drop place daemons 0 default)
    ∙ ap (λ ds. get_or ds 0 default) left
    ∙ get_or-drop place was 0 default ∙ ap (λ n. get_or was n default) here

-- the number of its next report has 64 bits
pub may_turn : (was daemons : List Daemon) (place : ℕ) (default : Daemon) → place < length was
    → All (λ (daemon : Daemon). daemon.number + 1 < 2 ^ 64) was
    → drop place daemons ≡ drop place was
    → (get_or daemons place default).number + 1 < 2 ^ 64
may_turn was daemons place default there all left =
    let is : (get_or daemons place default).number ≡ (get_or was place default).number =
    ap (λ (d : Daemon). d.number) (same_there was daemons place default left) in
    omega (arith, is, all place default there)

-- the first daemons have made a report more
abbrev pub ReportedOnce : List Daemon → List Daemon → Type 0
ReportedOnce was first = (n : ℕ) → HaveReported n was → HaveReported (n + 1) first

pub none_reported : (was : List Daemon) → ReportedOnce was []
none_reported was n all = All-nil (λ (d : Daemon). d.number ≡ n + 1)

pub one_reported : (was daemons : List Daemon) (place : ℕ) (default after : Daemon) → place < length daemons
    → place < length was
    → drop place daemons ≡ drop place was
    → after.number ≡ (get_or daemons place default).number + 1
    → ReportedOnce was (take place daemons)
    → ReportedOnce was (take (place + 1) (set daemons place after))
one_reported was daemons place default after within there left more first n all =
    let is : (get_or daemons place default).number ≡ n =
    ap (λ (d : Daemon). d.number) (same_there was daemons place default left)
    ∙ All-get_or (λ (d : Daemon). d.number ≡ n) was place default there all in
    subst (HaveReported (n + 1)) (sym (take_more_set daemons place after within))
    (All-push (λ (d : Daemon). d.number ≡ n + 1) (take place daemons) after (first n all)
    (more ∙ ap (λ m. m + 1) is))

pub all_reported : (was daemons : List Daemon) (place : ℕ) → length was ≤ place → length daemons ≡ length was
    → ReportedOnce was (take place daemons) → ReportedOnce was daemons
all_reported was daemons place all same first =
    subst (ReportedOnce was) (take_all place daemons (omega (arith, all, same))) first

-- all had their turns
pub all_turned : (now : ℕ) (was daemons : List Daemon) (place : ℕ) → length was ≤ place → length daemons ≡ length was
    → (s0 s : State) → IsTurning now was daemons place s0 s
    → (s ≡ state_behind_turns now s0 was) × (daemons ≡ daemons_behind_turns now s0 was)
all_turned now was daemons place all same s0 s turning =
    let none : drop place was ≡ [] = drop_all place was all in (
      ap (state_behind_turns now s) (sym none) ∙ turning.state,
      sym (take_all place daemons (omega (arith, all, same))) ∙ sym (append-nil (take place daemons))
          ∙ ap (λ ds. take place daemons ++ daemons_behind_turns now s ds) (sym none)
          ∙ turning.done,
    )
