-- Daemons are called one after the other.
use Rattle.std.proofs.Common.{◌≡◌, ℕ, suc, ◌+◌, ◌<◌, ◌≤◌, List, [], ◌∷◌, ◌++◌, length, take, drop, set, slice_get, refl, sym, ap, ◌∙◌, arith}
use Rattle.std.proofs.Math.Seq.{drop-cons}
use Rattle.std.proofs.Math.ListN.{get_or}
use Rattle.std.proofs.lemmas.List.{append_assoc, append-nil, drop_all, take_all, take_more_set, drop-set-lt}
use Rattle.reply_data.specs.declared.view.Row.{Row}
use Rattle.replay.specs.declared.played.Played.{Played}
use Rattle.replay.specs.Replay.{called_from, called_one}
use Rattle.replay.proofs.Turning.{first_left, others_left}

-- the first daemons were called, where so
pub record IsCalling (rows : List Row) (was daemons : List Played) (place : ℕ) : Type 0 where
  pub done : take place daemons ++ called_from rows place (drop place was) ≡ called_from rows 0 was
  pub left : drop place daemons ≡ drop place was

pub calls_begin : (rows : List Row) (daemons : List Played) → IsCalling rows daemons daemons 0
calls_begin rows daemons = record { done = refl; left = refl }

pub calls_go_on : (rows : List Row) (was daemons : List Played) (place : ℕ) (default after : Played)
    → place < length daemons → place < length was
    → after ≡ called_one (slice_get rows place) (get_or daemons place default)
    → IsCalling rows was daemons place → IsCalling rows was (set daemons place after) (place + 1)
calls_go_on rows was daemons place default after within there is calling =
    let others = drop (place + 1) was in
    let same : drop (place + 1) daemons ≡ others = others_left was daemons place default within there calling.left in
    let first : drop place was ≡ get_or daemons place default ∷ others =
    first_left was daemons place default within calling.left ∙ ap (λ ds. get_or daemons place default ∷ ds) same in
    let front : take (place + 1) (set daemons place after) ≡ take place daemons ++ after ∷ [] =
    take_more_set daemons place after within in
    let one : place < place + 1 = omega arith in
    record {
      done =
          ap (λ ds. ds ++ called_from rows (place + 1) others) front
          ∙ append_assoc (take place daemons) (after ∷ []) (called_from rows (place + 1) others)
          ∙ ap (λ d. take place daemons ++ d ∷ called_from rows (place + 1) others) is
          ∙ ap (λ ds. take place daemons ++ called_from rows place ds) (sym first)
          ∙ calling.done;
      left = drop-set-lt (place + 1) daemons place after one ∙ same;
    }

pub all_called : (rows : List Row) (was daemons : List Played) (place : ℕ) → length was ≤ place
    → length daemons ≡ length was → IsCalling rows was daemons place → daemons ≡ called_from rows 0 was
all_called rows was daemons place all same calling =
    let none : drop place was ≡ [] = drop_all place was all in
    sym (take_all place daemons (omega (arith, all, same))) ∙ sym (append-nil (take place daemons))
    ∙ ap (λ ds. take place daemons ++ called_from rows place ds) (sym none)
    ∙ calling.done
