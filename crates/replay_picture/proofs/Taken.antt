-- A run takes lanes, one after the other.
use Rattle.std.proofs.Common.{◌≡◌, ℕ, suc, ◌+◌, ◌<◌, ◌≤◌, List, [], ◌∷◌, ◌++◌, length, take, drop, set, refl, sym, ap, ◌∙◌, arith}
use Rattle.std.proofs.Math.Seq.{drop-cons}
use Rattle.std.proofs.Math.ListN.{get_or}
use Rattle.std.proofs.lemmas.List.{append_assoc, append-nil, drop_all, take_all, take_more_set, drop-set-lt}
use Rattle.replay_picture.specs.Lanes.{lane_behind, lanes_behind, wanted_behind}
use Rattle.replay_picture.specs.declared.lanes.Lane.{Lane}
use Rattle.replay_picture.specs.declared.lanes.Stay.{Stay}

-- The first lanes are as they will be: the lanes as they were, and as they are.
pub record IsTaking (stay : Stay) (wanted0 wanted : ℕ) (was lanes : List Lane) (place : ℕ) : Type 0 where
  pub done : take place lanes ++ lanes_behind stay wanted (drop place was) ≡ lanes_behind stay wanted0 was
  pub left : drop place lanes ≡ drop place was

pub taking_begins : (stay : Stay) (wanted : ℕ) (lanes : List Lane) → IsTaking stay wanted wanted lanes lanes 0
taking_begins stay wanted lanes = record { done = refl; left = refl }

tail_is : {X : Type 0} (x y : X) (xs ys : List X) → x ∷ xs ≡ y ∷ ys → xs ≡ ys
tail_is x y xs ys e = cc

-- those behind a lane, before and now
others_left : (was lanes : List Lane) (place : ℕ) (default : Lane) → place < length lanes → place < length was
    → drop place lanes ≡ drop place was → drop (place + 1) lanes ≡ drop (place + 1) was
others_left was lanes place default within there left =
    let next : place + 1 ≡ suc place = omega arith in
    rw next (
    tail_is (get_or lanes place default) (get_or was place default) (drop (suc place) lanes) (drop (suc place) was)
    (sym (drop-cons lanes place default within) ∙ left ∙ drop-cons was place default there)
    )

pub taking_goes_on : (stay : Stay) (wanted0 wanted wanted' : ℕ) (was lanes : List Lane) (place : ℕ) (default after : Lane)
    → place < length lanes → length lanes ≡ length was
    → wanted' ≡ wanted_behind stay wanted (get_or lanes place default)
    → after ≡ lane_behind stay wanted (get_or lanes place default)
    → IsTaking stay wanted0 wanted was lanes place
    → IsTaking stay wanted0 wanted' was (set lanes place after) (place + 1)
taking_goes_on stay wanted0 wanted wanted' was lanes place default after within same fewer is taking =
    let lane = get_or lanes place default in
    let others = drop (place + 1) was in
    let there : place < length was = omega (arith, within, same) in
    let rest : drop (place + 1) lanes ≡ others = others_left was lanes place default within there taking.left in
    let next : place + 1 ≡ suc place = omega arith in
    let cons : drop place lanes ≡ lane ∷ drop (place + 1) lanes = rw next (drop-cons lanes place default within) in
    let first : drop place was ≡ lane ∷ others = sym taking.left ∙ cons ∙ ap (λ ls. lane ∷ ls) rest in
    let front : take (place + 1) (set lanes place after) ≡ take place lanes ++ after ∷ [] =
    take_more_set lanes place after within in
    let one : place < place + 1 = omega arith in
    record {
      done =
          ap (λ ls. ls ++ lanes_behind stay wanted' others) front
          ∙ append_assoc (take place lanes) (after ∷ []) (lanes_behind stay wanted' others)
          ∙ ap (λ l. take place lanes ++ l ∷ lanes_behind stay wanted' others) is
          ∙ ap (λ n. take place lanes ++ lane_behind stay wanted lane ∷ lanes_behind stay n others) fewer
          ∙ ap (λ ls. take place lanes ++ lanes_behind stay wanted ls) (sym first)
          ∙ taking.done;
      left = drop-set-lt (place + 1) lanes place after one ∙ rest;
    }

-- all are taken
pub all_taken : (stay : Stay) (wanted0 wanted : ℕ) (was lanes : List Lane) (place : ℕ) → length was ≤ place
    → length lanes ≡ length was → IsTaking stay wanted0 wanted was lanes place → lanes ≡ lanes_behind stay wanted0 was
all_taken stay wanted0 wanted was lanes place all same taking =
    let none : drop place was ≡ [] = drop_all place was all in
    sym (take_all place lanes (omega (arith, all, same))) ∙ sym (append-nil (take place lanes))
    ∙ ap (λ ls. take place lanes ++ lanes_behind stay wanted ls) (sym none)
    ∙ taking.done
