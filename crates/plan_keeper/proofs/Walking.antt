-- Two lists of times are walked side by side over those that count.
use Rattle.std.proofs.Common.{◌≡◌, ℕ, ◌+◌, ◌≤◌, ◌<◌, zero, suc, Bool, true, false, List, [], ◌∷◌, length, drop, arith, refl, ap, sym, ◌∙◌, get_or}
use Rattle.std.specs.Prelude.{filter}
use Rattle.std.proofs.lemmas.List.{drop_more, length-drop}
use Rattle.backfill_planner.specs.declared.job.Barred.{Barred}

head-is : (times : List Barred) (place : ℕ) (time : Barred) → place < length times → time ≡ get_or times place time → drop place times ≡ time ∷ drop (place + 1) times
head-is times place time below is = drop_more times place time below ∙ ap (λ first. first ∷ drop (place + 1) times) (sym is)

-- one that doesn't count is passed over
pub passed-one : (counts : Barred → Bool) (times : List Barred) (place : ℕ) (time : Barred) → place < length times → time ≡ get_or times place time → counts time ≡ false → filter counts (drop place times) ≡ filter counts (drop (place + 1) times)
passed-one counts times place time below is fails = rw (head-is times place time below is, fails) refl

-- one that counts comes first
pub kept-one : (counts : Barred → Bool) (times : List Barred) (place : ℕ) (time : Barred) → place < length times → time ≡ get_or times place time → counts time ≡ true → filter counts (drop place times) ≡ time ∷ filter counts (drop (place + 1) times)
kept-one counts times place time below is passes = rw (head-is times place time below is, passes) refl

dropped-all : (times : List Barred) (place : ℕ) → length times ≤ place → drop place times ≡ []
dropped-all [] zero past = refl
dropped-all [] (suc place) past = refl
dropped-all (time ∷ times) zero past = absurd (omega (arith, past))
dropped-all (time ∷ times) (suc place) past = dropped-all times place (omega (arith, past))

pub nothing-left : (counts : Barred → Bool) (times : List Barred) (place : ℕ) → length times ≤ place → filter counts (drop place times) ≡ []
nothing-left counts times place past = rw (dropped-all times place past) refl

-- those that count of both lists are the same exactly where they are from these places on
pub record AreSameFrom (counts : Barred → Bool) (old new : List Barred) (index place : ℕ) : Type 0 where
  pub on : filter counts old ≡ filter counts new → filter counts (drop index old) ≡ filter counts (drop place new)
  pub back : filter counts (drop index old) ≡ filter counts (drop place new) → filter counts old ≡ filter counts new

pub walk-first : (counts : Barred → Bool) (old new : List Barred) → AreSameFrom counts old new 0 0
walk-first counts old new = record { on = λ same. same; back = λ same. same }

pub walk-past : (counts : Barred → Bool) (old new : List Barred) (index place : ℕ) (time : Barred) → AreSameFrom counts old new index place → index < length old → time ≡ get_or old index time → counts time ≡ false → AreSameFrom counts old new (index + 1) place
walk-past counts old new index place time were below is fails =
    let one = passed-one counts old index time below is fails in
    record { on = λ same. sym one ∙ were.on same; back = λ rest. were.back (one ∙ rest) }

pub walk-both : (counts : Barred → Bool) (old new : List Barred) (index place next : ℕ) (time : Barred) → AreSameFrom counts old new index place → index < length old → time ≡ get_or old index time → counts time ≡ true → filter counts (drop place new) ≡ filter counts (drop next new) → next < length new → time ≡ get_or new next time → AreSameFrom counts old new (index + 1) (next + 1)
walk-both counts old new index place next time were below is passes passed inside also =
    let one = kept-one counts old index time below is passes in
    let other = passed ∙ kept-one counts new next time inside also passes in
    record {
      on = λ same. ap (λ times. drop 1 times) (sym one ∙ were.on same ∙ other);
      back = λ rest. were.back (one ∙ ap (λ times. time ∷ times) rest ∙ sym other);
    }

-- where one that counts meets none, or another, they aren't the same
pub walk-none : (counts : Barred → Bool) (old new : List Barred) (index place next : ℕ) (time : Barred) → AreSameFrom counts old new index place → index < length old → time ≡ get_or old index time → counts time ≡ true → filter counts (drop place new) ≡ filter counts (drop next new) → length new ≤ next → filter counts old ≡ filter counts new → ⊥
walk-none counts old new index place next time were below is passes passed past same =
    let wrong : time ∷ filter counts (drop (index + 1) old) ≡ [] = sym (kept-one counts old index time below is passes) ∙ were.on same ∙ passed ∙ nothing-left counts new next past in
    absurd cc

pub walk-other : (counts : Barred → Bool) (old new : List Barred) (index place next : ℕ) (time other : Barred) → AreSameFrom counts old new index place → index < length old → time ≡ get_or old index time → counts time ≡ true → filter counts (drop place new) ≡ filter counts (drop next new) → next < length new → other ≡ get_or new next other → counts other ≡ true → (other ≡ time → ⊥) → filter counts old ≡ filter counts new → ⊥
walk-other counts old new index place next time other were below is passes passed inside also counted differs same =
    let heads : time ∷ filter counts (drop (index + 1) old) ≡ other ∷ filter counts (drop (next + 1) new) = sym (kept-one counts old index time below is passes) ∙ were.on same ∙ passed ∙ kept-one counts new next other inside also counted in
    differs (sym (ap (λ times. get_or times 0 time) heads))

-- at the end of the old list they are the same exactly where nothing of the new one is left
pub walk-end : (counts : Barred → Bool) (old new : List Barred) (index place next : ℕ) → AreSameFrom counts old new index place → length old ≤ index → filter counts (drop place new) ≡ filter counts (drop next new) → length new ≤ next → filter counts old ≡ filter counts new
walk-end counts old new index place next were end passed past =
    were.back (nothing-left counts old index end ∙ sym (passed ∙ nothing-left counts new next past))

pub walk-more : (counts : Barred → Bool) (old new : List Barred) (index place next : ℕ) → AreSameFrom counts old new index place → length old ≤ index → filter counts (drop place new) ≡ filter counts (drop next new) → next < length new → ((d : Barred) → counts (get_or new next d) ≡ true) → filter counts old ≡ filter counts new → ⊥
walk-more counts old new index place next were end passed inside counted same = by (drop next new) refl
  where
    by : (rest : List Barred) → drop next new ≡ rest → ⊥
    by [] is = absurd (omega (arith, inside, length-drop next new, ap (λ (times : List Barred). length times) is))
    by (other ∷ rest) is =
        let first : other ≡ get_or new next other = sym (ap (λ times. get_or times 0 other) (sym (drop_more new next other inside) ∙ is)) in
        let wrong : [] ≡ other ∷ filter counts (drop (next + 1) new) = sym (nothing-left counts old index end) ∙ were.on same ∙ passed ∙ kept-one counts new next other inside first (ap (λ one. counts one) first ∙ counted other) in
        absurd cc
