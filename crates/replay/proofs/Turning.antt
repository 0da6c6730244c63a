-- The turns of daemons, one after the other.
use Rattle.std.proofs.Common.{◌≡◌, ℕ, suc, ◌+◌, ◌<◌, ◌≤◌, ◌^◌, List, [], ◌∷◌, ◌++◌, length, take, drop, set, refl, sym, ap, ◌∙◌, arith, All}
use Rattle.std.proofs.Math.Seq.{drop-cons}
use Rattle.std.proofs.Math.ListN.{get_or}
use Rattle.std.proofs.lemmas.List.{append_assoc, append-nil, drop_all, get_or-drop, take_all, take_more_set, drop-set-lt}
use Rattle.ctl_state.specs.State.{State}
use Rattle.replay.specs.declared.played.Played.{Played}
use Rattle.request_data.specs.declared.report.Start.{Start}
use Rattle.replay.specs.declared.turns.Round.{Round}
use Rattle.replay.proofs.Reported.{few_turns}
use Rattle.replay.specs.Replay.{IsFew, played_behind_round, played_behind_several, state_behind_round, state_behind_several, turns_of}

-- what a round makes of one daemon
abbrev state_behind_one : Round → ℕ → List Start → State → Played → State
state_behind_one round now ended s one = state_behind_several (turns_of round now ended one) now s one

abbrev played_behind_one : Round → ℕ → List Start → State → Played → Played
played_behind_one round now ended s one = played_behind_several (turns_of round now ended one) now s one

-- The first daemons had their turns: the state and the daemons, as they were before and as they are.
pub record IsTurning (round : Round) (now : ℕ) (ended : List Start) (s0 s : State) (was daemons : List Played) (place : ℕ) : Type 0 where
  pub state : state_behind_round round now ended s (drop place was) ≡ state_behind_round round now ended s0 was
  pub done : take place daemons ++ played_behind_round round now ended s (drop place was) ≡ played_behind_round round now ended s0 was
  pub left : drop place daemons ≡ drop place was

pub turns_begin : (round : Round) (now : ℕ) (ended : List Start) (s : State) (daemons : List Played) → IsTurning round now ended s s daemons daemons 0
turns_begin round now ended s daemons = record { state = refl; done = refl; left = refl }

-- the first of those that are left
pub first_left : (was daemons : List Played) (place : ℕ) (default : Played) → place < length daemons
    → drop place daemons ≡ drop place was
    → drop place was ≡ get_or daemons place default ∷ drop (place + 1) daemons
first_left was daemons place default within left =
    let next : place + 1 ≡ suc place = omega arith in
    rw next (sym left ∙ drop-cons daemons place default within)

tail_is : {X : Type 0} (x y : X) (xs ys : List X) → x ∷ xs ≡ y ∷ ys → xs ≡ ys
tail_is x y xs ys e = cc

-- those behind it, before and now
pub others_left : (was daemons : List Played) (place : ℕ) (default : Played) → place < length daemons
    → place < length was
    → drop place daemons ≡ drop place was → drop (place + 1) daemons ≡ drop (place + 1) was
others_left was daemons place default within there left =
    let next : place + 1 ≡ suc place = omega arith in
    rw next (
    tail_is (get_or daemons place default) (get_or was place default) (drop (suc place) daemons) (drop (suc place) was)
    (sym (drop-cons daemons place default within) ∙ left ∙ drop-cons was place default there)
    )

turns_go_on : (round : Round) (now : ℕ) (ended : List Start) (s0 s s' : State) (was daemons : List Played) (place : ℕ) (default after : Played)
    → place < length daemons → place < length was
    → s' ≡ state_behind_one round now ended s (get_or daemons place default)
    → after ≡ played_behind_one round now ended s (get_or daemons place default)
    → IsTurning round now ended s0 s was daemons place
    → IsTurning round now ended s0 s' was (set daemons place after) (place + 1)
turns_go_on round now ended s0 s s' was daemons place default after within there goes turns turning =
    let daemon = get_or daemons place default in
    let others = drop (place + 1) was in
    let same : drop (place + 1) daemons ≡ others = others_left was daemons place default within there turning.left in
    let first : drop place was ≡ daemon ∷ others =
    first_left was daemons place default within turning.left ∙ ap (λ ds. daemon ∷ ds) same in
    let front : take (place + 1) (set daemons place after) ≡ take place daemons ++ after ∷ [] =
    take_more_set daemons place after within in
    let one : place < place + 1 = omega arith in
    record {
      state =
          ap (λ t. state_behind_round round now ended t others) goes
          ∙ ap (state_behind_round round now ended s) (sym first)
          ∙ turning.state;
      done =
          ap (λ ds. ds ++ played_behind_round round now ended s' others) front
          ∙ append_assoc (take place daemons) (after ∷ []) (played_behind_round round now ended s' others)
          ∙ ap (λ d. take place daemons ++ d ∷ played_behind_round round now ended s' others) turns
          ∙ ap (λ t. take place daemons ++ played_behind_one round now ended s daemon ∷ played_behind_round round now ended t others) goes
          ∙ ap (λ ds. take place daemons ++ played_behind_round round now ended s ds) (sym first)
          ∙ turning.done;
      left = drop-set-lt (place + 1) daemons place after one ∙ same;
    }

-- the same by the count of its turns
pub round_goes_on : (round : Round) (now : ℕ) (ended : List Start) (s0 s s' : State) (was daemons : List Played)
    (place count : ℕ) (default after : Played)
    → place < length daemons → place < length was
    → count ≡ turns_of round now ended (get_or daemons place default)
    → s' ≡ state_behind_several count now s (get_or daemons place default)
    → after ≡ played_behind_several count now s (get_or daemons place default)
    → IsTurning round now ended s0 s was daemons place
    → IsTurning round now ended s0 s' was (set daemons place after) (place + 1)
round_goes_on round now ended s0 s s' was daemons place count default after within there counts goes turns turning =
    let daemon = get_or daemons place default in
    turns_go_on round now ended s0 s s' was daemons place default after within there
    (goes ∙ ap (λ n. state_behind_several n now s daemon) counts)
    (turns ∙ ap (λ n. played_behind_several n now s daemon) counts) turning

-- the first of those that are left is as it was
same_there : (was daemons : List Played) (place : ℕ) (default : Played) → drop place daemons ≡ drop place was
    → get_or daemons place default ≡ get_or was place default
same_there was daemons place default left =
    let here : place + 0 ≡ place = omega arith in
    ap (λ n. get_or daemons n default) (sym here) ∙ sym (get_or-drop place daemons 0 default)
    ∙ ap (λ ds. get_or ds 0 default) left
    ∙ get_or-drop place was 0 default ∙ ap (λ n. get_or was n default) here

-- the number of its next report has 64 bits
may_turn : (round : Round) (now : ℕ) (ended : List Start) (s0 s : State) (was daemons : List Played) (place : ℕ) (default : Played)
    → place < length was → length daemons ≡ length was
    → All (λ (one : Played). one.daemon.number + 2 < 2 ^ 64) was
    → IsTurning round now ended s0 s was daemons place
    → (get_or daemons place default).daemon.number + 2 < 2 ^ 64
may_turn round now ended s0 s was daemons place default there same all turning =
    let is : (get_or daemons place default).daemon.number ≡ (get_or was place default).daemon.number =
    ap (λ (d : Played). d.daemon.number) (same_there was daemons place default turning.left) in
    omega (arith, is, all place default there)

pub may_turns : (round : Round) (now : ℕ) (ended : List Start) (s0 s : State) (was daemons : List Played)
    (place count : ℕ) (default : Played)
    → place < length was → length daemons ≡ length was
    → All (λ (one : Played). one.daemon.number + 2 < 2 ^ 64) was → IsFew round
    → count ≡ turns_of round now ended (get_or daemons place default)
    → IsTurning round now ended s0 s was daemons place
    → (get_or daemons place default).daemon.number + count < 2 ^ 64
may_turns round now ended s0 s was daemons place count default there same all few counts turning =
    omega (
      arith,
      counts,
      may_turn round now ended s0 s was daemons place default there same all turning,
      few_turns round now ended (get_or daemons place default) few,
    )

-- all had their turns
pub all_turned : (round : Round) (now : ℕ) (ended : List Start) (s0 s : State) (was daemons : List Played) (place : ℕ)
    → length was ≤ place → length daemons ≡ length was
    → IsTurning round now ended s0 s was daemons place
    → (s ≡ state_behind_round round now ended s0 was) × (daemons ≡ played_behind_round round now ended s0 was)
all_turned round now ended s0 s was daemons place all same turning =
    let none : drop place was ≡ [] = drop_all place was all in (
      ap (state_behind_round round now ended s) (sym none) ∙ turning.state,
      sym (take_all place daemons (omega (arith, all, same))) ∙ sym (append-nil (take place daemons))
          ∙ ap (λ ds. take place daemons ++ played_behind_round round now ended s ds) (sym none)
          ∙ turning.done,
    )
